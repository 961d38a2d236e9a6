use Rattle.streams.proofs.PlaceLemmas.{below_rest, lost_rest, shuffle_rest}
use Rattle.streams.proofs.laws.draws_take_the_first_words.Goals as goal

pub returns-clause-below : goal.returns-clause-below
returns-clause-below c = below_rest

pub returns-clause-lost : goal.returns-clause-lost
returns-clause-lost c = lost_rest

pub returns-clause-shuffle : goal.returns-clause-shuffle
returns-clause-shuffle c = shuffle_rest
