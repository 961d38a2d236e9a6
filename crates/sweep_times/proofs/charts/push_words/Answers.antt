use Rattle.drawing.proofs.Pushes.{and_then, and_last}
use Rattle.sweep_times.specs.Charts.{chart_words}
use Rattle.sweep_times.proofs.charts.push_words.Goals as goal

pub returns : goal.returns
unfolding chart_words
returns c =
    let median = and_then _ _ _ (and_then _ _ _ (and_then _ _ _ (and_then _ _ _ c.in_ok-push_markup.ensures c.in_ok-push_time.ensures) c.in_ok-push_markup-2.ensures) c.in_ok-push_lasting_of.ensures) c.in_ok-push_markup-3.ensures in
    and_last _ _ _ _ c.push_markup-5.result (and_then _ _ _ (and_then _ _ _ (and_then _ _ _ median (rw c.never_confirmed.ensures at c.in_ok-push_grouped.ensures)) c.in_ok-push_markup-4.ensures) (rw c.held.ensures at c.in_ok-push_grouped-2.ensures)) c.push_markup-5.ensures
