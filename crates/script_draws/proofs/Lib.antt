pub mod ChoiceLemmas
pub mod AgainLemmas
