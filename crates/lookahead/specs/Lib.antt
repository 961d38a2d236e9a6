pub mod Least
pub mod Lengths
pub mod Between
pub mod Walks
pub mod TableOf
pub mod Direct
