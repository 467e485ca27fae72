-- Apart: no stop, block or unblock is untold to two spaces.
-- Passed: what the records of an event leave of a space that they do not concern.
-- Forms: the forms of a turn: what its records do to who runs, and which spaces they concern.
-- Fine: of a space at the end of an event: a life of it is in, or something is untold to it, or all is good.
-- Events: each event keeps that of each space. Moments: so the demand of a space covers its load at each moment.
pub mod Apart
pub mod Passed
pub mod Forms
pub mod Fine
pub mod Events
pub mod Moments
