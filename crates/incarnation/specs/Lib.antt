pub mod Overrides
pub mod Refutations
