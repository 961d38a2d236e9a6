pub mod Members
pub mod CounterOverflow
pub mod ProcessOverflow
pub mod Holds
pub mod Lists
pub mod Helpers
pub mod Samples
pub mod Doublings
pub mod Openings
pub mod ForgottenOnes
pub mod Times
pub mod Tries
pub mod Tables
pub mod Ways
pub mod Ridings
mod KnownOnes
pub mod Names
pub mod FittingOnes
pub mod Fair
pub mod Buddies
mod Groups
pub mod Rebirths
