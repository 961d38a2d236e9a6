pub mod Keys
pub mod Values
pub mod Pairs
pub mod Order
pub mod Entries
pub mod Document
pub mod Stays
pub mod Tree
