pub mod Pages
pub mod Promise
pub mod Tallied
