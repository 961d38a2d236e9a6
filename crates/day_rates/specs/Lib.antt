pub mod Rates
pub mod Roots
