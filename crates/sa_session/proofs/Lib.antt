-- Lines: The bytes with which a line begins, and how what is read adds up.
-- Puts: A reply ends no run, and adds no item.
-- Telling: What is told item by item.
-- Sessions: What a session reached, in the words of the laws.
-- Eventing: What an event does to a session, case by case.
-- Going: A session goes on by one event more, or is over.
pub mod Lines
pub mod Puts
pub mod Telling
pub mod Sessions
pub mod Eventing
pub mod Going
