pub mod Words
pub mod Torn
