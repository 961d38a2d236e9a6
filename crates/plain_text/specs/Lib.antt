pub mod Lines
pub mod Document
pub mod Headings
