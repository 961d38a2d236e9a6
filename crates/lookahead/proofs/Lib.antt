pub mod LeastOf
pub mod Writing
pub mod Joining
pub mod Shortening
pub mod Shortest
pub mod Linking
pub mod Progress
