pub mod Objects
pub mod Telling
