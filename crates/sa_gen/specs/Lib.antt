pub mod Generated
pub mod Probe
