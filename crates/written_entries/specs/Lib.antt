pub mod Keys
pub mod Bad
pub mod Ranges
