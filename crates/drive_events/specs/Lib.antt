pub mod Start
pub mod Line
