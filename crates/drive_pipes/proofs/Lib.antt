pub mod Cut
pub mod Flowing
