use Rattle.drawing.proofs.Pushes.{and_then, and_last}
use Rattle.drawing.specs.Pages.{page_opening}
use Rattle.drawing.proofs.page.open_page.Goals as goal

pub returns : goal.returns
unfolding page_opening
returns c = and_last _ _ _ _ c.push_markup-2.result (and_then _ _ _ (and_then _ _ _ (and_then _ _ _ c.in_ok-push_head.ensures c.in_ok-push_escaped.ensures) c.in_ok-push_markup.ensures) c.in_ok-push_styles.ensures) c.push_markup-2.ensures
