pub mod Function
