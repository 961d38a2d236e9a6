pub mod Order
pub mod Places
