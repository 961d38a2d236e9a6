use Rattle.std.proofs.Common.{append_assoc, refl}
use Rattle.run_spread.specs.Spread.{share_cells}
use Rattle.run_spread.proofs.spread.push_times.Goals as goal

pub returns : goal.returns
unfolding share_cells
returns c = simp (c.in_ok-push_time-5.ensures, c.in_ok-push_time-4.ensures, c.in_ok-push_time-3.ensures, c.in_ok-push_time-2.ensures, c.in_ok-push_time.ensures, append_assoc) refl
