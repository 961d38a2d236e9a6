use Rattle.drawing.proofs.Pushes.{and_then}
use Rattle.sweep_keys.specs.Keys.{legend_entry}
use Rattle.sweep_keys.proofs.legend.push_entry.Goals as goal

pub returns : goal.returns
unfolding legend_entry
returns c = and_then _ _ _ (and_then _ _ _ c.in_ok-push_sample.ensures (rw c.place-first.ensures at c.in_ok-push_others_at.ensures)) c.in_ok-push_markup.ensures
