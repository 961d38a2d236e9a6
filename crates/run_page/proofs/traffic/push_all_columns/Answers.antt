use Rattle.std.proofs.Common.{append_assoc, refl}
use Rattle.run_page.specs.Traffic.{columns}
use Rattle.run_page.proofs.traffic.push_all_columns.Goals as goal

pub returns : goal.returns
unfolding columns
returns c = simp (c.in_ok-push_str-2.ensures.bytes, c.in_ok-push_columns.ensures, c.in_ok-push_str.ensures.bytes, c.kinds.ensures.value, append_assoc) refl
