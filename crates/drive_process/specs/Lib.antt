pub mod Process
pub mod Acts
pub mod Driven
pub mod Answers
pub mod Own
pub mod ProcessOf
pub mod Makes
pub mod Fair
