-- Standing: where each activation number stands, and what a record changes in that.
-- Shapes: in a lawful event each record that changes a life is one that may, and is in its place.
-- Moves: that law of records holds along each legal run, and what is read agrees with where the numbers stand.
-- Shown: where a number stands is shown by what is read.
-- Holders: no record makes a thread ready that holds a list lock.
-- Lockers: each locked list is among the locks of one life.
-- Moments: what follows of these at each moment of a legal run.
pub mod Standing
pub mod Shapes
pub mod Moves
pub mod Shown
pub mod Holders
pub mod Lockers
pub mod Moments
