use Rattle.std.proofs.Common.{append_assoc, refl}
use Rattle.run_spread.specs.Spread.{share_row}
use Rattle.run_spread.proofs.spread.push_row.Goals as goal

pub returns : goal.returns
unfolding share_row
returns c = simp (c.in_ok-push_times.ensures, c.in_ok-push_str-3.ensures.bytes, c.in_ok-push_str-2.ensures.bytes, c.in_ok-push_str.ensures.bytes, append_assoc) refl
