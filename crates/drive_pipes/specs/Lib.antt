pub mod Lines
pub mod Chunks
pub mod Flows
