pub mod Names
pub mod Between
pub mod Members
pub mod Pauses
pub mod Turns
pub mod Apart
pub mod Napping
pub mod Noting
mod Events
mod Happening
mod Dealing
