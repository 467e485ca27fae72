pub mod Change
pub mod Recorded
pub mod Rows
pub mod Table
pub mod View
