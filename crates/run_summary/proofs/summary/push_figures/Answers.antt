use Rattle.std.proofs.Common.{append_assoc, refl}
use Rattle.run_summary.specs.Summary.{figures}
use Rattle.run_summary.proofs.summary.push_figures.Goals as goal

pub returns : goal.returns
unfolding figures
returns c = simp (c.in_ok-push_harness_of.ensures, c.in_ok-push_last_of.ensures, c.in_ok-push_back.ensures, c.in_ok-push_first_of.ensures, append_assoc) refl
