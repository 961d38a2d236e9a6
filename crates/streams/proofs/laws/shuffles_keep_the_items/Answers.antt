use Rattle.streams.proofs.OrderLemmas.{shuffle_keeps}
use Rattle.streams.proofs.laws.shuffles_keep_the_items.Goals as goal

pub returns : goal.returns
returns c = shuffle_keeps
