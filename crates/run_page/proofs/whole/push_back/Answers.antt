use Rattle.std.proofs.Common.{append_assoc, refl}
use Rattle.run_page.specs.Page.{page_back}
use Rattle.run_page.proofs.whole.push_back.Goals as goal

pub returns : goal.returns
unfolding page_back
returns c = simp (c.in_ok-push_str.ensures.bytes, c.in_ok-push_settings.ensures, c.in_ok-push_health.ensures, c.in_ok-push_traffic.ensures, c.in_ok-push_spread.ensures, append_assoc) refl
