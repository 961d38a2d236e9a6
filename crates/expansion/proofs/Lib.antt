pub mod Stays
pub mod Whole
