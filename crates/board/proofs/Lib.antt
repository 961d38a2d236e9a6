pub mod Hands
pub mod Singles
pub mod Steps
pub mod Records
pub mod Sent
