use Rattle.drawing.proofs.Pushes.{and_then, and_last}
use Rattle.sweep_keys.specs.Keys.{line_over}
use Rattle.sweep_keys.proofs.line.push_line.Goals as goal

pub returns : goal.returns
unfolding line_over
returns c = and_last _ _ _ _ c.push_all_marks.result (and_then _ _ _ (and_then _ _ _ c.in_ok-push_path.ensures c.in_ok-push_corners.ensures) c.in_ok-push_markup.ensures) c.push_all_marks.ensures
