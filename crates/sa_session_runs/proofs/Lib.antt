-- Puts: A value that is alike leaves all that is kept from move to move.
-- Sessions: Each session is a legal run by its user level's rules.
-- Turns: What a turn asks, and what a reply is in a session.
-- Asked: What is known of the turn that a question is of.
-- Growing: A session goes on by one move more; and a run is a session.
pub mod Puts
pub mod Sessions
pub mod Turns
pub mod Asked
pub mod Growing
