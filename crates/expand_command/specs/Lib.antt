pub mod Outcomes
pub mod Texts
