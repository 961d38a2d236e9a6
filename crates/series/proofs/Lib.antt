pub mod Grids
pub mod Passing
pub mod Flowing
pub mod Telling
pub mod Counted
pub mod Revived
pub mod Hearing
pub mod Returning
pub mod Gathering
pub mod Holding
mod Watching
pub mod Dying
pub mod Answering
