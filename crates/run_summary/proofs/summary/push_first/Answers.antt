use Rattle.std.proofs.Common.{append_assoc, refl}
use Rattle.run_summary.specs.Summary.{first_figures}
use Rattle.run_summary.proofs.summary.push_first.Goals as goal

pub returns : goal.returns
unfolding first_figures
returns c = simp (c.in_ok-push_death_figure.ensures, c.in_ok-push_out_figure.ensures, c.in_ok-push_figure.ensures, append_assoc) refl
