pub mod Starts
pub mod Zip
