pub mod Passes
pub mod Keeps
pub mod Sent
