pub mod Beginnings
pub mod ShortFields
pub mod RowsText
