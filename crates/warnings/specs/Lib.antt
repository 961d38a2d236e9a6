pub mod About
pub mod Conditions
pub mod Findings
pub mod Told
