pub mod FirstFaults
pub mod Sent
pub mod Until
pub mod Worlds
pub mod Bounded
pub mod AllWindows
pub mod OneWorld
pub mod Reached
pub mod Turns
pub mod Pending
pub mod WindowResult
pub mod Lots
pub mod OwnRows
pub mod LotWindows
pub mod Lasting
mod Least
mod Walking
mod Dealing
pub mod Places
mod Ways
pub mod OwnBounds
