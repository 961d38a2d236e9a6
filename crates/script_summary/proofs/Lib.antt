pub mod Extents
pub mod Parted
pub mod Stands
