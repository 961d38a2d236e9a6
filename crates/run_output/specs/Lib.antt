pub mod Promise
pub mod Written
pub mod Traced
