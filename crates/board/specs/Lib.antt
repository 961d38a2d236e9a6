pub mod Deal
pub mod NoSite
pub mod Seats
pub mod Sites
pub mod Posts
pub mod Past
pub mod Records
