pub mod Shards
pub mod Names
