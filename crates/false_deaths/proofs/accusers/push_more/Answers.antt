use Rattle.std.proofs.Common.{append_assoc, refl}
use Rattle.false_deaths.specs.Causes.{more_accusers}
use Rattle.false_deaths.proofs.accusers.push_more.Goals as goal

pub returns : goal.returns
unfolding more_accusers
returns c = simp (c.in_ok-push_str-2.ensures.bytes, c.by_number.ensures, c.in_ok-push_grouped.ensures, c.in_ok-push_str.ensures.bytes, append_assoc) refl
