pub mod Health
pub mod Probe
pub mod NackDelay
pub mod Relays
