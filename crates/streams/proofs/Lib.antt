pub mod DrawLemmas
pub mod PlaceLemmas
pub mod RangeLemmas
pub mod OrderLemmas
pub mod FractionLemmas
