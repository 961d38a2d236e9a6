use Rattle.std.proofs.Common.{append_assoc, refl}
use Rattle.run_spread.specs.Spread.{spread_legend}
use Rattle.run_spread.proofs.spread.push_legend.Goals as goal

pub returns : goal.returns
unfolding spread_legend
returns c = simp (c.in_ok-push_str-2.ensures.bytes, c.in_ok-push_entry-2.ensures, c.in_ok-push_entry.ensures, c.in_ok-push_str.ensures.bytes, append_assoc) refl
