mod Turning
mod Pushes
mod Members
mod Columns
mod Keeping
mod Counting
mod Sums
mod Holding
mod Wholes
mod Beginnings
mod Clusters
mod Troubles
mod Deciding
mod Living
mod Listing
pub mod Telling
mod Passing
