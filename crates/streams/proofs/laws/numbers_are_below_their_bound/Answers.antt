use Rattle.streams.proofs.RangeLemmas.{below_fits}
use Rattle.streams.proofs.laws.numbers_are_below_their_bound.Goals as goal

pub returns : goal.returns
returns c = below_fits
