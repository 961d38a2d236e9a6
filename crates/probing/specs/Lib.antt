pub use Rattle.streams.specs.Draw
pub mod ProbeOrder
pub mod Ahead
pub mod Rounds
pub mod Mixed
pub mod Displaced
pub mod Samples
