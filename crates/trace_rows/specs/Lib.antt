pub mod Rows
pub mod Moments
