pub mod Numbers
pub mod Held
pub mod Columns
pub mod Table
pub mod Deaths
pub mod Candidates
