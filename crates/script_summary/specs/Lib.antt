pub mod Happenings
pub mod Extents
pub mod Entries
pub mod Summary
