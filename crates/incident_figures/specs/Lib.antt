pub mod Runs
pub mod Settings
