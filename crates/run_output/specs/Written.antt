-- What was written of a trace as its rows came.
use Rattle.std.specs.Prelude.{◌≡◌, ℕ, ◌<◌, ◌≤◌, ◌^◌, List, length, Option, Result, Ok, Err, OnOk, OnErr, IsErrOf}
use Rattle.std.specs.Io.KnownBytes.{Appends}
use Rattle.base.specs.declared.fault.Fault.{Fault}
use Rattle.base.specs.declared.fault.Fault.TheVariants as fault
use Rattle.scenario.specs.Setup.{Setup}
use Rattle.trace.specs.declared.row.Row.{Row}
use Rattle.trace.specs.Sinks.{AppendsBeginning}
use Rattle.trace.specs.Text.{trace_text}

-- one failure of a sink where a write failed, and none else
abbrev pub sink_failures : {T : Type 0} → Result T Fault → ℕ
sink_failures (Ok _) = 0
sink_failures (Err fault.Memory) = 0
sink_failures (Err fault.CounterOverflow) = 0
sink_failures (Err fault.Write) = 1
sink_failures (Err fault.ThreadLost) = 0

-- The trace of these rows was written, and they were tallied; or after a fault a beginning of it was. The report's counts
-- would pass their limit only where there are so many rows.
pub record HasWritten {T : Type 0} (s : Setup) (rows : List Row) (held_old held_new : Option (List ℕ)) (tallied : List Row) (outcome : Result T Fault) : Type 0 where
  pub whole : OnOk outcome (Appends held_old held_new (trace_text s rows) × (tallied ≡ rows))
  pub part : OnErr outcome (AppendsBeginning held_old held_new (trace_text s rows))
  pub lasts : OnOk outcome (length rows ≤ 2 ^ 63)
  pub overflow : IsErrOf outcome fault.CounterOverflow → 2 ^ 63 < length rows
