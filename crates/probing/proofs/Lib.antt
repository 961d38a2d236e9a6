pub mod SoundLemmas
pub mod CallLemmas
pub mod RoundLemmas
pub mod MixedLemmas
pub mod DisplacedLemmas
pub mod OthersLemmas
mod AheadLemmas
mod SampleLemmas
