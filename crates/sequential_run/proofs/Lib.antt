mod Runs
mod Faults
pub mod Streamed
mod Whole
pub mod Reported
pub mod Endings
mod FirstVersion
