-- What a sink takes, and how its failures are counted.
use Rattle.std.specs.Prelude.{◌≡◌, ◌==◌, ◌&&◌, ℕ, List, ◌++◌, Option, Result, Ok, Err, not, length, if◌then◌else◌}
use Rattle.std.specs.Io.KnownBytes.{Appends}
use Rattle.base.specs.declared.fault.Fault.{Fault}
use Rattle.base.specs.declared.fault.Fault.TheVariants as fault
use Rattle.trace.specs.declared.write.WriteError.{WriteError}
use Rattle.trace.specs.declared.write.WriteError.TheVariants as error

-- known bytes grow by a beginning of the text
pub record AppendsBeginning (old new : Option (List ℕ)) (text : List ℕ) : Type 0 where
  pub front : List ℕ
  pub rest : List ℕ
  pub whole : front ++ rest ≡ text
  pub appends : Appends old new front

-- the failures of one put: answering `Stopped` is one, and so is taking nothing of a piece that is not empty
abbrev pub failures_of_put : {E : Type 0} → Result ℕ E → List ℕ → ℕ
failures_of_put (Ok taken) bytes = if (taken == 0) && not (length bytes == 0) then 1 else 0
failures_of_put (Err _) bytes = 1

-- one failure where a call stopped, and none else
abbrev pub failure_if_stopped : {T E : Type 0} → Result T E → ℕ
failure_if_stopped (Ok _) = 0
failure_if_stopped (Err _) = 1

-- the failures of one writing call: one where the sink stopped, none where memory was refused
abbrev pub failures_of_write : {T : Type 0} → Result T WriteError → ℕ
failures_of_write (Ok _) = 0
failures_of_write (Err error.Memory) = 0
failures_of_write (Err error.Stopped) = 1

-- the fault of a run whose text was not written whole
abbrev pub fault_of_write : WriteError → Fault
fault_of_write error.Memory = fault.Memory
fault_of_write error.Stopped = fault.Write
