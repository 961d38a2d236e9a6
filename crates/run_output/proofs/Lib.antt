pub mod Failing
pub mod Faults
pub mod Runs
pub mod Streaming
pub mod Early
