mod Commands
mod Simulated
