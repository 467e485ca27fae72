pub mod Space
pub mod SpaceFields
pub mod Workload
pub mod WorkloadFields
pub mod Laws
