pub mod Roster
pub mod Spans
pub mod Times
pub mod Reading
pub mod Rules
