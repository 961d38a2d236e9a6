pub mod Items
pub mod Lengths
pub mod Broadcasts
pub mod Contents
pub mod Uses
