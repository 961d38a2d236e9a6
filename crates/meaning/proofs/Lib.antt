pub mod Greatest
pub mod Sums
pub mod LinksBy
pub mod More
pub mod Names
pub mod Grouped
pub mod Doublings
