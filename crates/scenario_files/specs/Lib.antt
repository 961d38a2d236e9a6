pub mod Shelves
pub mod Loading
pub mod Checks
pub mod Told
