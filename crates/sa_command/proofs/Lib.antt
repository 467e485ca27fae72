pub mod Pairs
mod Ranges
