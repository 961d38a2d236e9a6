pub mod Tables
pub mod Timeouts
pub mod Entries
pub mod Timers
