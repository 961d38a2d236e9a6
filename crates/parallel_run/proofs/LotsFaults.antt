-- Of two faults by which workers may end, the first.
use Rattle.std.proofs.Common.{Bool, true, false, cond, nat_lt}
use Rattle.base.specs.declared.fault.Fault.{Fault}
use Rattle.lookahead_windows.specs.Faults.{rank_of, first_fault}
use Rattle.lookahead_windows.specs.Basis.{Basis}
use Rattle.parallel_run.specs.Messages.{MayEndBy}

either_may : (basis : Basis) (b : Bool) (one other : Fault) → MayEndBy basis one → MayEndBy basis other → MayEndBy basis (cond b other one)
either_may basis true one other is also = also
either_may basis false one other is also = is

pub first_may : (basis : Basis) (one other : Fault) → MayEndBy basis one → MayEndBy basis other → MayEndBy basis (first_fault one other)
first_may basis one other is also = either_may basis (nat_lt (rank_of other) (rank_of one)) one other is also
