use Rattle.std.proofs.Common.{append_assoc, refl}
use Rattle.run_page.specs.Traffic.{heads}
use Rattle.run_page.proofs.traffic.push_heads.Goals as goal

pub returns : goal.returns
unfolding heads
returns c = simp (c.in_ok-push_str-5.ensures.bytes, c.in_ok-push_str-4.ensures.bytes, c.in_ok-push_str-3.ensures.bytes, c.in_ok-push_str-2.ensures.bytes, c.in_ok-push_str.ensures.bytes, append_assoc) refl
