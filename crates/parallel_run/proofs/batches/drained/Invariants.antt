use Rattle.std.proofs.Common.{◌≡◌, Some}
use Rattle.lookahead_windows.specs.Basis.{Basis}
use Rattle.parallel_run.specs.Messages.{MayEndBy}
use Rattle.parallel_run.proofs.batches.drained.Given as goal

abbrev pub invariant-loop : goal.invariant-loop
invariant-loop g l = record {
  goes_on : (goal.iterator-loop g).can_next l.iterator' × (goal.iterator-loop g).is_finite l.iterator';
  may : (basis : Basis) → g.K.OfRun.basis ≡ Some basis → MayEndBy basis l.first;
}
