use Rattle.std.proofs.Common.{◌≡◌, Some}
use Rattle.lookahead_windows.specs.Basis.{Basis}
use Rattle.parallel_run.proofs.LotsJoined.{AreLotsBelow}
use Rattle.parallel_run.proofs.batches.next_turn.Given as goal

abbrev pub invariant-loop-number : goal.invariant-loop-number
invariant-loop-number g l = (basis : Basis) → g.K.OfRun.basis ≡ Some basis → AreLotsBelow basis l.since l.number l.all.until l.all.round l.all.last l.all.rows.items
