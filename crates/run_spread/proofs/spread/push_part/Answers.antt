use Rattle.std.proofs.Common.{append_assoc, refl}
use Rattle.run_spread.specs.Spread.{crash_part}
use Rattle.run_spread.proofs.spread.push_part.Goals as goal

pub returns : goal.returns
unfolding crash_part
returns c = simp (c.in_ok-push_str-3.ensures.bytes, c.in_ok-push_shares.ensures, c.in_ok-push_scaled.ensures, c.in_ok-push_str-2.ensures.bytes, c.in_ok-push_escaped.ensures, c.in_ok-push_str.ensures.bytes, append_assoc) refl
