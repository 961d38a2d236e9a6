use Rattle.drawing.proofs.Pushes.{and_then, and_last}
use Rattle.sweep_page.specs.Summary.{size_words}
use Rattle.sweep_page.proofs.summary.push_size.Goals as goal

pub returns : goal.returns
unfolding size_words
returns c = and_last _ _ _ _ c.push_markup-3.result (and_then _ _ _ (and_then _ _ _ (and_then _ _ _ (and_then _ _ _ c.in_ok-push_markup.ensures (rw c.settings.ensures at c.in_ok-push_grouped.ensures)) c.in_ok-push_markup-2.ensures) c.in_ok-push_at_most.ensures) (rw c.runs_of_setting.ensures at c.in_ok-push_grouped-2.ensures)) c.push_markup-3.ensures
