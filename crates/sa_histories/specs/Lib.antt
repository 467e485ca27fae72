-- What the lemmas are about. Lawful: legality along a history, event by event. Short: what short histories are written with.
pub mod Lawful
pub mod Short
