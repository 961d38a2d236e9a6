pub mod More
pub mod One
pub mod Twice
pub mod Whom
pub mod Within
pub mod Written
