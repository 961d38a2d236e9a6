pub mod Cells
pub mod Flat
pub mod Handing
mod Lots
pub mod Sharing
mod Seeds
mod SettingsJudged
pub mod Numbers
pub mod Steps
pub mod Gathered
mod Pushed
mod SettingTexts
pub mod Sizes
pub mod FirstSeed
pub mod ShardCourse
pub mod LinesOf
pub mod Kept
mod Begins
pub mod Fronts
mod WholeSweep
pub mod Ticks
