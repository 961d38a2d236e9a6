pub mod Beginnings
pub mod Bytes
pub mod Items
pub mod OneLine
pub mod OneSetting
pub mod Read
pub mod SettingsOf
pub mod OpenRows
pub mod MadeLines
mod Written
mod Again
mod CutSettings
pub mod Standing
