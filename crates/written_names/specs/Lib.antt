pub mod Names
pub mod Roster
