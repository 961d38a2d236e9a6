pub mod Counted
pub mod Same
pub mod Wide
pub mod Left
pub mod Settings
pub mod Behind
pub mod ShardSettings
pub mod Enough
