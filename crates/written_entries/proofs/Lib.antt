pub mod Twice
pub mod Chain
