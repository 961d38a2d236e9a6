pub mod Steps
pub mod Runs
pub mod Reports
pub mod Entries
pub mod Shapes
pub mod Documents
