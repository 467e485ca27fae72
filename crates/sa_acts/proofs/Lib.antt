pub mod Weights
pub mod RoomLemmas
