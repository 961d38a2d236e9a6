use Rattle.std.proofs.Common.{sym}
use Rattle.streams.proofs.DrawLemmas.{below_one, lost_never, lost_always, shuffle_short}
use Rattle.streams.proofs.laws.certain_draws_take_no_word.Goals as goal

pub returns-clause-below : goal.returns-clause-below
returns-clause-below c words = sym (below_one words)

pub returns-clause-never_lost : goal.returns-clause-never_lost
returns-clause-never_lost c words = sym (lost_never words)

pub returns-clause-always_lost : goal.returns-clause-always_lost
returns-clause-always_lost c words parts all = sym (lost_always words parts all)

pub returns-clause-shuffle : goal.returns-clause-shuffle
returns-clause-shuffle c words items few = sym (shuffle_short words items few)
