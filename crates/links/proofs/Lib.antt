pub mod Maps
pub mod Served
pub mod Arrivals
pub mod Pairs
pub mod Search
pub mod Cuts
pub mod Tries
pub mod SlowOnes
mod Greatest
mod Falling
pub mod Calendars
