pub mod Arrival
pub mod Entries
pub mod Table
pub mod Least
pub mod Trips
pub mod Dials
pub mod SlowTimes
pub mod SlowTimesOf
