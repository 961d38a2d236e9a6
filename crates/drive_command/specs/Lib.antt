pub mod Ends
pub mod Harnesses
pub mod Making
pub mod Outcomes
pub mod Playing
