use Rattle.std.proofs.Common.{append_assoc, refl}
use Rattle.false_deaths.specs.Causes.{own_told}
use Rattle.false_deaths.proofs.death.push_own_told.Goals as goal

pub returns : goal.returns
unfolding own_told
returns c = simp (c.in_ok-push_refuted_told.ensures, c.in_ok-push_own.ensures, append_assoc) refl
