pub mod Agreeing
pub mod Steps
pub mod Ends
pub mod Credits
