pub mod Due
pub mod Page
pub mod Parted
pub mod Runs
