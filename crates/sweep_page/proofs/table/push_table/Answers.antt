use Rattle.drawing.proofs.Pushes.{and_then}
use Rattle.sweep_page.specs.Table.{table}
use Rattle.sweep_page.proofs.table.push_table.Goals as goal

pub returns : goal.returns
unfolding table
returns c = and_then _ _ _ (and_then _ _ _ (and_then _ _ _ (and_then _ _ _ (and_then _ _ _ (and_then _ _ _ (and_then _ _ _ (and_then _ _ _ (and_then _ _ _ c.in_ok-open_figure.ensures c.in_ok-push_table_words.ensures) c.in_ok-push_table_opening.ensures) (rw c.swept_keys-swept_keys.ensures at c.in_ok-push_names.ensures)) c.in_ok-push_figure_words.ensures) (rw c.count_incidents-counted.ensures at c.in_ok-push_day_heads.ensures)) c.in_ok-push_markup.ensures) (rw c.count_incidents-counted.ensures at c.in_ok-push_rows.ensures)) c.in_ok-push_markup-2.ensures) c.in_ok-close_figure.ensures
