use Rattle.std.proofs.Common.{append_assoc, refl}
use Rattle.run_summary.specs.Summary.{some_found}
use Rattle.run_summary.proofs.summary.push_some_found.Goals as goal

pub returns : goal.returns
unfolding some_found
returns c = simp (c.in_ok-push_str.ensures.bytes, c.by_number.ensures, c.in_ok-write.ensures.bytes, append_assoc) refl
