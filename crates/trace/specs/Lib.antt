pub mod Text
pub mod Sinks
pub mod Writers
pub mod Lines
pub mod Memory
