-- What a run keeps of the sink of its trace, while its rows are written as they come.
use Rattle.std.specs.Prelude.{◌≡◌, ◌≢◌, ℕ, ◌<◌, ◌⊎◌, List, Option, Result, IfOk, OnOk, OnErr, IsErrOf}
use Rattle.std.specs.Io.KnownBytes.{Appends}
use Rattle.base.specs.declared.fault.Fault.{Fault}
use Rattle.base.specs.declared.fault.Fault.TheVariants as fault
use Rattle.scenario.specs.Setup.{Setup}
use Rattle.trace.specs.declared.row.Row.{Row}
use Rattle.trace.specs.Text.{trace_text}
use Rattle.member_laws.specs.Runs.{IsRunOf, CounterOverflows}
use Rattle.run_output.specs.Promise.{BeginsTrace, ReportOverflows}

-- a fault that comes before anything is written
abbrev pub IsEarly : Fault → Type 0
IsEarly f = (f ≢ fault.CounterOverflow) × (f ≢ fault.Write)

-- What every way to run the scenario keeps of the trace's sink, which isn't flushed yet: what it holds, and how many of its failures
-- were counted.
pub record KeepsTrace (s : Setup) (held_old held_new : Option (List ℕ)) (failed_old failed_new : ℕ) (result : Result (List Row) Fault) : Type 0 where
  -- the trace of the scenario's run was written and tallied; after a fault a beginning of that
  pub run : IfOk result (IsRunOf s)
  pub whole : IfOk result (λ rows. Appends held_old held_new (trace_text s rows))
  pub part : OnErr result (BeginsTrace s held_old held_new)
  -- no counter of a run that succeeds passes 2^63, nor does one of its report, and no fault comes without its cause
  pub lasts : OnOk result (¬ (CounterOverflows s))
  pub lasts_report : OnOk result (¬ (ReportOverflows s))
  pub overflow : IsErrOf result fault.CounterOverflow → CounterOverflows s ⊎ ReportOverflows s
  pub write : IsErrOf result fault.Write → failed_old < failed_new
  pub unfailed : OnOk result (failed_new ≡ failed_old)
  pub relay : IsErrOf result fault.ThreadLost → failed_new ≡ failed_old
