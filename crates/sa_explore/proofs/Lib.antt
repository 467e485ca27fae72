-- Replays: The turns of a run, one after another: each can be made, and leads on.
-- Doings: What the store and the turns of a search say of the runs to a state, and what a turn more comes to.
-- Aheads: The turns that are made ahead are turns from the states that they name.
-- Concluded: What a search that stopped answers.
pub mod Replays
pub mod Doings
pub mod Aheads
pub mod Concluded
