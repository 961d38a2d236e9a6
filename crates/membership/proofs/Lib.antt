pub mod Alive
mod Joined
mod OneByte
mod Columns
mod Sides
mod Entries
pub mod Few
