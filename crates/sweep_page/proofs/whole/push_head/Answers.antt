use Rattle.drawing.proofs.Pushes.{and_then, and_last}
use Rattle.sweep_page.specs.Page.{page_head}
use Rattle.sweep_page.proofs.whole.push_head.Goals as goal

pub returns : goal.returns
unfolding page_head
returns c = and_last _ _ _ _ c.push_markup-2.result (and_then _ _ _ (and_then _ _ _ ((rw c.page_style.ensures at c.in_ok-open_page.ensures)) c.in_ok-push_markup.ensures) c.in_ok-push_escaped.ensures) c.push_markup-2.ensures
