pub mod Times
pub mod Trips
pub mod Pushes
pub mod Quiet
pub mod Groups
pub mod News
pub mod Each
