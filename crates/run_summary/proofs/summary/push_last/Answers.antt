use Rattle.std.proofs.Common.{append_assoc, refl}
use Rattle.run_summary.specs.Summary.{last_figures}
use Rattle.run_summary.proofs.summary.push_last.Goals as goal

pub returns : goal.returns
unfolding last_figures
returns c = simp (c.in_ok-push_figure-5.ensures, c.in_ok-push_figure-4.ensures, c.in_ok-push_figure-3.ensures, c.in_ok-push_figure-2.ensures, c.in_ok-push_figure.ensures, append_assoc) refl
