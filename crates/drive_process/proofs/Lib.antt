pub mod Fair
pub mod Overflow
