pub mod Order
pub mod World
pub mod Run
pub mod Rising
pub mod Logarithm
pub mod Beats
