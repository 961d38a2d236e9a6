pub mod Names
pub mod Reading
pub mod Filling
pub mod Holding
