-- Along: a value along a list, one item later. Lists: lists that were changed at one place, and tests that choose.
-- Records: what one record changes in what is read, reading by reading, as the words have it.
-- Lives, Fields: what each life has, as something said of its number, and what one record changes in it.
-- Pages: which pages are resident. Raised: where the words say that a line is raised, it is read so; and taken lives.
-- Untouched: fields of lives that few records change. Spaces: the spaces of aims, owners and lives are the workload's.
-- Items: along a legal run what is read is what the words say, item by item.
-- Known: what is known of each record of a lawful event.
-- Loads: the load of a space. OwnEvents, Inside: own events, what settles, and which lives are in. Urged: pairs.
-- Events: from event to event. Ends: at the end of each event. Moments: each reading at each moment of a legal run.
pub mod Along
pub mod Lists
pub mod Lives
pub mod Records
pub mod Fields
pub mod Pages
pub mod Raised
pub mod Spaces
pub mod Untouched
pub mod Items
pub mod Known
pub mod Loads
pub mod OwnEvents
pub mod Inside
pub mod Events
pub mod Urged
pub mod Ends
pub mod Moments
