use Rattle.std.proofs.Common.{append_assoc, refl}
use Rattle.run_summary.specs.Summary.{account_figures}
use Rattle.run_summary.proofs.summary.push_account_figures.Goals as goal

pub returns : goal.returns
unfolding account_figures
returns c = simp (c.in_ok-push_back_figure.ensures, c.in_ok-push_death_figure.ensures, c.in_ok-push_figure-3.ensures, c.in_ok-push_figure-2.ensures, c.in_ok-push_figure.ensures, append_assoc) refl
