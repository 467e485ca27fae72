-- Formed: where its steps have forms and their first records are guarded, a user level meets what is needed of it.
-- FastThreads, ThreadPriorities: each package's steps are so. Both: either package, by its name.
pub mod Formed
pub mod FastThreads
pub mod ThreadPriorities
pub mod Both
