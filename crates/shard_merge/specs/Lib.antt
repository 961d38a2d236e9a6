pub mod Among
pub mod Behind
pub mod Joined
pub mod Reasons
pub mod Genuine
