use Rattle.std.proofs.Common.{append_assoc, refl}
use Rattle.run_summary.specs.Summary.{part_found}
use Rattle.run_summary.proofs.summary.push_part_found.Goals as goal

pub returns : goal.returns
unfolding part_found
returns c = simp (c.in_ok-push_known.ensures, c.in_ok-push_some_found.ensures, append_assoc) refl
