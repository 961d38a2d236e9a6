pub mod KindsOfMessages
pub mod Marks
pub mod Fields
pub mod Runs
pub mod RanksOfTimes
pub mod Roots
pub mod Bins
pub mod Summaries
mod Cells
pub mod MetadataWords
pub mod SameFigures
pub mod NoteParts
pub mod SameNotes
pub mod NoNotes
pub mod Handing
pub mod Told
pub mod Fed
