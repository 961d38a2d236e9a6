mod Closing
mod Counting
mod Differing
mod Ending
mod Opened
mod Sinks
mod Told
mod Unmade
