pub mod Turns
pub mod Choice
pub mod Again
