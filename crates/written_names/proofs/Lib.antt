pub mod Groups
pub mod Find
