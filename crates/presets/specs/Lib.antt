pub mod Presets
pub mod Texts
pub mod Rows
