pub mod Lowest
pub mod Judged
pub mod Texts
