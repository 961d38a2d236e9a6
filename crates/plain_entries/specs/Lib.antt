pub mod Who
pub mod Entries
pub mod Departures
pub mod Restarts
pub mod Spells
pub mod Script
