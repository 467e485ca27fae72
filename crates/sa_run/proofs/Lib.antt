pub mod SoFar
mod Chain
