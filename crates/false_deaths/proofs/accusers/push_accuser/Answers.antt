use Rattle.std.proofs.Common.{append_assoc, refl}
use Rattle.false_deaths.specs.Causes.{accuser_item}
use Rattle.false_deaths.proofs.accusers.push_accuser.Goals as goal

pub returns : goal.returns
unfolding accuser_item
returns c = simp (c.in_ok-push_str.ensures.bytes, c.in_ok-push_states.ensures, c.began-from.ensures, c.in_ok-push_probe.ensures, c.in_ok-push_claim.ensures, append_assoc) refl
