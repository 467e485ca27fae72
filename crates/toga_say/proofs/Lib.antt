-- Loops: What is made of the items of a list with their numbers, one after another.
-- Rows: Rows, one processor after another.
mod Loops
mod Rows
