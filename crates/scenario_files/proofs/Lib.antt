mod Divided
pub mod Closed
pub mod Held
pub mod Pairs
