pub mod fields
pub mod forward
pub mod calls
mod Splitting
pub mod causes
pub mod whole
pub mod OneLine
