pub mod Moments
pub mod Tellings
pub mod Places
pub mod Outcomes
