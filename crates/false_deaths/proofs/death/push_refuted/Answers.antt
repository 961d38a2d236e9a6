use Rattle.std.proofs.Common.{append_assoc, refl}
use Rattle.false_deaths.specs.Causes.{refuted_item}
use Rattle.false_deaths.proofs.death.push_refuted.Goals as goal

pub returns : goal.returns
unfolding refuted_item
returns c = simp (c.in_ok-push_str-3.ensures.bytes, c.in_ok-push_grouped.ensures, c.in_ok-push_str-2.ensures.bytes, c.in_ok-push_line.ensures, c.in_ok-push_timed.ensures, c.in_ok-push_str.ensures.bytes, append_assoc) refl
