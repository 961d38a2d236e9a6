pub mod Order
pub mod Pointers
pub mod Steps
pub mod Picks
pub mod Whole
