use Rattle.std.proofs.Common.{append_assoc, refl}
use Rattle.run_spread.specs.Spread.{share_table}
use Rattle.run_spread.proofs.spread.push_shares.Goals as goal

pub returns : goal.returns
unfolding share_table
returns c = simp (c.in_ok-push_str.ensures.bytes, c.in_ok-push_row-2.ensures, c.in_ok-push_row.ensures, c.in_ok-push_heads.ensures, append_assoc) refl
