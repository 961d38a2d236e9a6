pub mod Front
pub mod Statistics
pub mod Bounds
pub mod Wants
pub mod Words
pub mod Answers
