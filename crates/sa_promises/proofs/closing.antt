-- Closings: after each event of a legal run a closing would add no want and no aim.
-- Turns: what an event's own part does to the owner and the aim of its processor.
-- Low, Front: a processor whose line is low is aimed at by its owner, record by record and after each event.
-- Due: after each event but the opening no line is due.
pub mod Closings
pub mod Turns
pub mod Low
pub mod Front
pub mod Due
