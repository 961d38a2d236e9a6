pub mod Late
pub mod Turns
pub mod Verdict
pub mod Plain
