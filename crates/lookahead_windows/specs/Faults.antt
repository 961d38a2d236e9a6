-- Which of several faults a run answers.
use Rattle.std.specs.Prelude.{ℕ, nat_lt, if◌then◌else◌}
use Rattle.base.specs.declared.fault.Fault.{Fault}
use Rattle.base.specs.declared.fault.Fault.TheVariants.{Memory, CounterOverflow, Write, ThreadLost}

-- the place of a fault in the order in which faults are answered
abbrev pub rank_of : Fault → ℕ
rank_of Memory = 1
rank_of CounterOverflow = 2
rank_of Write = 3
rank_of ThreadLost = 4

-- of two faults the one that comes first in that order
abbrev pub first_fault : Fault → Fault → Fault
first_fault one other = if nat_lt (rank_of other) (rank_of one) then other else one
