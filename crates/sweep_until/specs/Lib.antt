pub mod Kept
pub mod Shards
pub mod Until
pub mod Widths
