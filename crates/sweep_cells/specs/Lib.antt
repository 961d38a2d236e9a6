pub mod Words
pub mod Paths
pub mod Cells
