use Rattle.drawing.proofs.Pushes.{and_then}
use Rattle.sweep_page.specs.Table.{key_head}
use Rattle.sweep_page.proofs.table.push_name.Goals as goal

pub returns : goal.returns
unfolding key_head
returns c = and_then _ _ _ (and_then _ _ _ c.in_ok-push_markup.ensures (rw (c.as_str.ensures.value, c.in_ok-name.ensures, c.key.ensures) at c.in_ok-push_broken.ensures)) c.in_ok-push_markup-2.ensures
