pub mod Lots
pub mod Rule
pub mod Seats
