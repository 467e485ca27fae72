-- The laws that hold where nothing of the space happens, at the opening, at the kernel's events and at the end.
pub mod Frames
pub mod KernelEvents
pub mod Openings
pub mod Ends
