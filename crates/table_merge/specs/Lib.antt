pub mod Seeds
pub mod Lines
pub mod Found
pub mod Reasons
pub mod Merged
pub mod Tables
pub mod Genuine
