pub mod Firsts
pub mod Folds
