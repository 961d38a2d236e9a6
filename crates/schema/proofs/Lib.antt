pub mod Trees
pub mod Chain
pub mod Once
