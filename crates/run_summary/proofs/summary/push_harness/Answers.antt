use Rattle.std.proofs.Common.{append_assoc, refl}
use Rattle.run_summary.specs.Summary.{harness_figures}
use Rattle.run_summary.proofs.summary.push_harness.Goals as goal

pub returns : goal.returns
unfolding harness_figures
returns c = simp (c.in_ok-push_some-3.ensures, c.in_ok-push_some-2.ensures, c.in_ok-push_some.ensures, append_assoc) refl
