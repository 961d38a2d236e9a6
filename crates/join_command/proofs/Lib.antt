pub mod Causes
mod Stored
mod Held
