pub mod Cutting
pub mod Walking
pub mod Whole
pub mod Judged
pub mod Payloads
