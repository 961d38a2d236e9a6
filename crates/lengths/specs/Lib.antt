pub mod Numerals
pub mod Lengths
