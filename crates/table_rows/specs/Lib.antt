pub mod Items
pub mod Lines
pub mod Settings
pub mod Open
pub mod Refused
pub mod Made
pub mod Begun
pub mod Cut
