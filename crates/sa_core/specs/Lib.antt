pub mod View
pub mod Room
