pub mod Columns
pub mod Held
