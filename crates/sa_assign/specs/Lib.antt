pub mod Aims
pub mod AssignView
pub mod Laws
pub mod Reaim
