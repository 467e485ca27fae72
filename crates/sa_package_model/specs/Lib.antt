pub mod Context
pub mod Rules
pub mod Step
pub mod Conditions
pub mod Laws
pub mod Hands
pub mod Stands
