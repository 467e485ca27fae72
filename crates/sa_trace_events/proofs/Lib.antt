-- Touched: An item that does not touch a track leaves it as it is.
-- Lists: What is found in one pass is what is found of each track.
-- Itself: What a track shows is the same as itself.
-- Along: The text along the items that touch a track is that along all items.
-- OwnEnds: The arrows of a thread begin and end at items that touch it.
-- Nested: The slices of one kind of a processor lie in those of an upper kind.
-- Plain: Names and lines need no escape.
mod Touched
mod Lists
mod Itself
mod Along
mod OwnEnds
mod Nested
mod Plain
