pub mod Parts
pub mod Bounds
pub mod Course
pub mod Wheels
pub mod Beginning
