pub mod Rows
pub mod Lowest
pub mod Values
pub mod Shape
pub mod References
