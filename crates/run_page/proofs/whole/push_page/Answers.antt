use Rattle.std.proofs.Common.{append_assoc, refl}
use Rattle.run_page.specs.Page.{page_text}
use Rattle.run_page.proofs.whole.push_page.Goals as goal

pub returns : goal.returns
unfolding page_text
returns c = simp (c.in_ok-push_back.ensures, c.in_ok-push_front.ensures, c.in_ok-push_head.ensures, append_assoc) refl
