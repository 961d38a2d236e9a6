use Rattle.std.proofs.Common.{append_assoc, refl}
use Rattle.run_page.specs.Traffic.{row_head}
use Rattle.run_page.proofs.traffic.push_row_head.Goals as goal

pub returns : goal.returns
unfolding row_head
returns c = simp (c.in_ok-push_str-2.ensures.bytes, c.in_ok-push_moment_alone.ensures, c.in_ok-push_str.ensures.bytes, append_assoc) refl
