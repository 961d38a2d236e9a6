use Rattle.drawing.proofs.Pushes.{and_then}
use Rattle.sweep_page.specs.Front.{front_figure}
use Rattle.sweep_page.proofs.front.push_front.Goals as goal

pub returns : goal.returns
unfolding front_figure
returns c = and_then _ _ _ (and_then _ _ _ (and_then _ _ _ (and_then _ _ _ ((rw c.front_heading.ensures at c.in_ok-open_figure.ensures)) c.in_ok-push_words.ensures) (rw c.reach_of-reach.ensures.is at c.in_ok-push_chart.ensures)) c.in_ok-push_rows.ensures) c.in_ok-close_figure.ensures
