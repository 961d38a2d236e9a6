use Rattle.std.proofs.Common.{append_assoc, refl}
use Rattle.false_deaths.specs.Causes.{own_item}
use Rattle.false_deaths.proofs.death.push_own.Goals as goal

pub returns : goal.returns
unfolding own_item
returns c = simp (c.in_ok-push_str.ensures.bytes, c.in_ok-push_states.ensures, c.in_ok-open_own.ensures, c.ticks.ensures, append_assoc) refl
