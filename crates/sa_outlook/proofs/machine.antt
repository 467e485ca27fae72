pub mod Calls
pub mod Phases
pub mod EventBegins
pub mod OneTurn
pub mod Ends
pub mod Regular
pub mod Puts
