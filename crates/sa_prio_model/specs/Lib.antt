pub mod Prio
pub mod Urge
pub mod Step
pub mod Conditions
pub mod Stands
pub mod Laws
