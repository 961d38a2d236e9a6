pub mod Figures
pub mod Script
pub mod Summaries
pub mod Document
