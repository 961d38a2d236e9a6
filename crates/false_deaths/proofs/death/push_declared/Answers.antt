use Rattle.std.proofs.Common.{append_assoc, refl}
use Rattle.false_deaths.specs.Causes.{declared_item}
use Rattle.false_deaths.proofs.death.push_declared.Goals as goal

pub returns : goal.returns
unfolding declared_item
returns c = simp (c.in_ok-push_str.ensures.bytes, c.in_ok-push_states.ensures, c.in_ok-push_declared_by.ensures, c.name.ensures.value, append_assoc) refl
