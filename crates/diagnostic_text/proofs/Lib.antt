mod Blocks
mod Chosen
mod Values
