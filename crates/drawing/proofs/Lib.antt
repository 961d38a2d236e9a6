pub mod Markup
pub mod Pushes
pub mod Groups
pub mod Ranges
pub mod Steps
mod Lengths
