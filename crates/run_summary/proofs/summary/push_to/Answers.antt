use Rattle.std.proofs.Common.{append_assoc, refl}
use Rattle.run_summary.proofs.summary.push_to.Goals as goal

pub returns : goal.returns
returns c = simp (c.in_ok-push_grouped.ensures, c.in_ok-push_str.ensures.bytes, append_assoc) refl
