pub mod Schema
pub mod Tree
pub mod Shape
pub mod Values
