pub mod DueOrder
pub mod WholeLists
