use Rattle.std.proofs.Common.{append_assoc, refl}
use Rattle.run_page.specs.Page.{page_front}
use Rattle.run_page.proofs.whole.push_front.Goals as goal

pub returns : goal.returns
unfolding page_front
returns c = simp (c.in_ok-push_causes.ensures, c.in_ok-push_thrown_out.ensures, c.in_ok-push_lanes.ensures, c.in_ok-push_summary.ensures, append_assoc) refl
