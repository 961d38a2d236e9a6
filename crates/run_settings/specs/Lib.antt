pub mod Events
pub mod Nearest
pub mod Settings
pub mod Values
