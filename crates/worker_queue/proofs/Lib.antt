mod Bits
pub mod Contents
mod Ends
mod Events
mod Leasts
mod Lists
mod Places
mod Ranks
mod Receivers
mod Taken
mod Turned
mod Unions
mod Wheels
