pub mod Slashes
pub mod Laid
pub mod Bounds
pub mod Whole
pub mod Axes
