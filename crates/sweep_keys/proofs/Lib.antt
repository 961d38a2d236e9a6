pub mod Held
pub mod Axes
