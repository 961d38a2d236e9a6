pub mod Words
pub mod Files
pub mod Runs
pub mod Items
pub mod Shards
