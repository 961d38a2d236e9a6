pub mod Coming
pub mod Bounding
mod Limits
mod Releasing
pub mod Turning
pub mod RowOrders
pub mod After
pub mod Goes
pub mod Ends
mod Wearing
pub mod ProcessWearing
pub mod Lasting
mod Admitted
