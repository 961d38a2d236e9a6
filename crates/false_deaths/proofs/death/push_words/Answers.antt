use Rattle.std.proofs.Common.{append_assoc, refl}
use Rattle.false_deaths.specs.Causes.{cause_words}
use Rattle.false_deaths.proofs.death.push_words.Goals as goal

pub returns : goal.returns
unfolding cause_words
returns c list are = simp (c.in_ok-push_str.ensures.bytes, c.in_ok-push_accusers.ensures list are, c.in_ok-push_later.ensures, c.in_ok-push_own_told.ensures, c.since_first-since.ensures list are, c.in_ok-push_declared.ensures, c.in_ok-open_cause.ensures, c.name.ensures.value, c.ticks.ensures, append_assoc) refl
