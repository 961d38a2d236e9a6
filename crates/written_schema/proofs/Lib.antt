pub mod Lowest
pub mod Low
