-- The laws of user levels that speak of threads and lives alone, for each package whose contexts have FastThreads' in them.
pub mod Rests
pub mod SameSpace
pub mod Running
pub mod Ceases
pub mod PlainNotices
pub mod Upcalls
pub mod LifeEnds
pub mod Answers
pub mod KernelEvents
pub mod Ends
pub mod Waiting
pub mod Openings
