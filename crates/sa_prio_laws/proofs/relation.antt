-- The package's value and contexts beside what is read of the history: the one list by ranks, the pairs, and the mark.
pub mod Orders
pub mod Ready
pub mod Ranked
pub mod Pairs
pub mod Listed
pub mod Placed
pub mod Popped
pub mod Fresh
pub mod OneList
