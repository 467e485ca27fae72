pub mod ReadyView
pub mod RankSet
pub mod Chains
