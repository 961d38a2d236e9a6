pub mod Lines
pub mod Keys
