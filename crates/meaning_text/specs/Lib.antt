pub mod Words
pub mod Lines
pub mod Summaries
pub mod Numbers
pub mod Text
pub mod Figures
