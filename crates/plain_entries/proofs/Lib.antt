pub mod InOrder
pub mod Members
pub mod Turns
pub mod Returns
pub mod Whole
