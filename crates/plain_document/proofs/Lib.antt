pub mod Plain
pub mod Walks
pub mod One
pub mod Stays
pub mod Ordered
pub mod Given
pub mod Held
