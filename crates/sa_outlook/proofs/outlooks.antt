pub mod AlikeOutlooks
pub mod Runs
