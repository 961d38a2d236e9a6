pub mod Trees
pub mod Groups
pub mod Chain
pub mod Sound
pub mod Find
pub mod Moments
pub mod Sweep
pub mod First
mod Judging
