mod App
mod Asking
mod Parts
mod RunRows
mod Sweeps
mod Widths
