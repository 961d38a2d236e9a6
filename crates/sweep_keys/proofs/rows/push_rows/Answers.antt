use Rattle.drawing.proofs.Pushes.{and_then}
use Rattle.sweep_keys.specs.Keys.{key_table}
use Rattle.sweep_keys.proofs.rows.push_rows.Goals as goal

pub returns : goal.returns
unfolding key_table
returns c = and_then _ _ _ (and_then _ _ _ c.in_ok-push_heads.ensures c.in_ok-push_lines.ensures) c.in_ok-push_markup.ensures
