-- Numbers: After a key is put into the map, it has its number, and the other keys have theirs.
-- Firsts: The first place at which a test passes.
--
-- Marking: What a mark more keeps of the marks, and that they are whole when a sweep marks nothing more.
pub mod Numbers
pub mod Firsts
pub mod Marking
pub mod Counted
