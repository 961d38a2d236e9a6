-- Faults differ from each other.
use Rattle.std.proofs.Common.{◌≢◌}
use Rattle.base.specs.declared.fault.Fault.TheVariants.{Memory, CounterOverflow, Write, ThreadLost}

pub memory≢overflow : Memory ≢ CounterOverflow
memory≢overflow is = cc

pub memory≢write : Memory ≢ Write
memory≢write is = cc

pub memory≢relay : Memory ≢ ThreadLost
memory≢relay is = cc

pub overflow≢write : CounterOverflow ≢ Write
overflow≢write is = cc

pub overflow≢relay : CounterOverflow ≢ ThreadLost
overflow≢relay is = cc

pub write≢relay : Write ≢ ThreadLost
write≢relay is = cc
