use Rattle.std.proofs.Common.{◌≡◌, ◌+◌, length, vec_len, Some}
use Rattle.std.specs.List.{AllByRecursion}
use Rattle.lookahead_windows.specs.Basis.{Basis}
use Rattle.parallel_run.specs.Relays.{AreNewSeats}
use Rattle.parallel_run.proofs.relay_ends.ends_of.Given as goal

abbrev pub invariant-loop-seats : goal.invariant-loop-seats
invariant-loop-seats g l = record {
  run : (basis : Basis) × (g.K.OfRun.basis ≡ Some basis) × AllByRecursion (AreNewSeats l.relays basis) l.all.items;
  count : length l.ends.items + length l.all.items ≡ length l.fn.all.items;
}

abbrev pub decreases-loop-seats : goal.decreases-loop-seats
decreases-loop-seats g l = vec_len l.all
