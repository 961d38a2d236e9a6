use Rattle.std.proofs.Common.{append_assoc, refl}
use Rattle.false_deaths.specs.Causes.{own_opening}
use Rattle.false_deaths.proofs.death.open_own.Goals as goal

pub returns : goal.returns
unfolding own_opening
returns c = simp (c.in_ok-push_str-2.ensures.bytes, c.in_ok-push_timed.ensures, c.in_ok-push_str.ensures.bytes, append_assoc) refl
