pub mod Steps
pub mod Named
pub mod Levels
pub mod Choosing
