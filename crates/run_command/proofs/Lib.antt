pub mod Causes
mod Counted
mod Stored
mod Ending
mod Paged
mod Checked
