use Rattle.std.proofs.Common.{append_assoc, refl}
use Rattle.false_deaths.specs.Causes.{causes_figure}
use Rattle.false_deaths.proofs.causes.push_figure.Goals as goal

pub returns : goal.returns
unfolding causes_figure
returns c = simp (c.in_ok-close_figure.ensures, c.in_ok-push_more.ensures, c.requires.those.count, c.in_ok-push_each.ensures, c.in_ok-push_intro.ensures, c.in_ok-open_figure.ensures, append_assoc) refl
