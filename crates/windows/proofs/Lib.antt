pub mod Swaps
pub mod Early
pub mod Safety
pub mod Merge
pub mod Sorting
pub mod Released
pub mod Cuts
pub mod Windows
pub mod Division
pub mod Far
pub mod Schedules
pub mod Members
pub mod States
pub mod Outs
pub mod Clear
pub mod Bounds
pub mod Horizons
pub mod Order
pub mod Numbers
pub mod Slots
pub mod Admitting
pub mod Deliveries
pub mod PartRuns
pub mod Consistent
mod Advancing
mod Reach
mod PartWindows
mod Plays
mod PlayChoices
pub mod PlayEnds
mod PlayRows
mod PlaySafe
mod PlayWorlds
mod Playing
pub mod Fresh
pub mod Exchanged
pub mod Wholes
pub mod RowOrders
pub mod WholeOpening
