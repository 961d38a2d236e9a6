pub mod Bins
pub mod Charts
pub mod Times
