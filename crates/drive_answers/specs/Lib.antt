pub mod Kinds
pub mod Pieces
pub mod Modes
pub mod Standing
pub mod Said
pub mod SaidOf
pub mod Answer
