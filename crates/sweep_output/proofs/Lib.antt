pub mod Counted
pub mod Joined
pub mod Lines
pub mod Parts
