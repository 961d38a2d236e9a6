use Rattle.std.proofs.Common.{◌≡◌, Some}
use Rattle.lookahead_windows.specs.Basis.{Basis}
use Rattle.parallel_run.specs.Messages.{MayEndBy}
use Rattle.parallel_run.proofs.batches.skip_each.Given as goal

abbrev pub invariant-loop-taker : goal.invariant-loop-taker
invariant-loop-taker g l = (basis : Basis) → g.K.OfRun.basis ≡ Some basis → MayEndBy basis l.first
