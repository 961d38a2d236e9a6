pub mod Ranges
pub mod Times
pub mod Settings
pub mod Suspicions
pub mod Coding
pub mod SuspicionOf
