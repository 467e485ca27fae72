pub mod Contexts
pub mod Laws
