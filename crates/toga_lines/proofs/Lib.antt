pub mod Loops
pub mod Firsts
