pub mod Files
pub mod Memory
pub mod Refusals
pub mod System
