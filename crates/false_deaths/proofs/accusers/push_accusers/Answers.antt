use Rattle.std.proofs.Common.{append_assoc, refl}
use Rattle.false_deaths.specs.Causes.{accusers_told}
use Rattle.false_deaths.proofs.accusers.push_accusers.Goals as goal

pub returns : goal.returns
unfolding accusers_told
returns c list are = simp (c.in_ok-push_end.ensures, c.count.ensures, are.count, c.in_ok-push_first.ensures list are, append_assoc) refl
