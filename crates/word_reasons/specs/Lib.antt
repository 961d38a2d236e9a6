pub mod Found
pub mod Faults
