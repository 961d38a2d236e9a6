pub mod Troubles
pub mod Causes
