pub mod Keyed
pub mod Picked
pub mod Uses
