pub mod ExistLemmas
pub mod FairLemmas
pub mod ShareLemmas
pub mod TurnLemmas
pub mod RoundLemmas
pub mod ServingLemmas
