use Rattle.streams.proofs.RangeLemmas.{lost_value}
use Rattle.streams.proofs.laws.losses_are_numbers_below_the_parts.Goals as goal

pub returns : goal.returns
returns c = lost_value
