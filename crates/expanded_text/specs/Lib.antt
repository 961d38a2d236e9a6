pub mod Order
pub mod Rule
pub mod Text
pub mod Written
