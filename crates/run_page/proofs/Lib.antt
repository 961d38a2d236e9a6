pub mod SpanEnds
pub mod Stacking
