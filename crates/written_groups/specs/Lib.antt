pub mod Values
pub mod Groups
