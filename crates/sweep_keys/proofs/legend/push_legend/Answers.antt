use Rattle.drawing.proofs.Pushes.{and_then}
use Rattle.sweep_keys.specs.Keys.{legend}
use Rattle.sweep_keys.proofs.legend.push_legend.Goals as goal

pub returns : goal.returns
unfolding legend
returns c = and_then _ _ _ (and_then _ _ _ (and_then _ _ _ c.in_ok-push_markup.ensures c.in_ok-push_entries.ensures) c.in_ok-push_markup-2.ensures) (rw (c.saturating_sub.ensures, c.settings.ensures, c.max.ensures) at c.in_ok-push_undrawn.ensures)
