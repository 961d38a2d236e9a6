use Rattle.drawing.proofs.Pushes.{and_then, and_last}
use Rattle.run_page.specs.Page.{head_text}
use Rattle.run_page.proofs.whole.push_head.Goals as goal

pub returns : goal.returns
unfolding head_text
returns c = and_last _ _ _ _ c.push_markup.result (and_then _ _ _ ((rw c.layout_style.ensures at c.in_ok-open_page.ensures)) c.in_ok-push_escaped.ensures) c.push_markup.ensures
