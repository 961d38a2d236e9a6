-- What a run writes, and how far it has come.
use Rattle.std.specs.Prelude.{◌≡◌, ◌≢◌, ℕ, ◌⊎◌, List, ◌^◌, ◌<◌, Option, Result, Ok, Err, length, IfOk, IfErr, OnOk, OnErr, IsErrOf}
use Rattle.std.specs.Io.KnownBytes.{Appends, Keeps}
use Rattle.base.specs.declared.fault.Fault.{Fault}
use Rattle.base.specs.declared.fault.Fault.TheVariants as fault
use Rattle.scenario.specs.Setup.{Setup}
use Rattle.trace.specs.declared.row.Row.{Row}
use Rattle.trace.specs.Text.{trace_text}
use Rattle.trace.specs.Sinks.{AppendsBeginning}
use Rattle.reports.specs.Text.{report_text}
use Rattle.member_laws.specs.Runs.{IsRunOf, CounterOverflows}
use Rattle.run_output.specs.declared.summary.Summary.{Summary}

-- the trace and the report of the scenario's run were appended, each to the bytes of its sink; the run has so many rows
pub record WritesRun (s : Setup) (trace_old trace_new report_old report_new : Option (List ℕ)) (count : ℕ) : Type 0 where
  pub rows : List Row
  pub run : IsRunOf s rows
  pub counted : count ≡ length rows
  pub trace : Appends trace_old trace_new (trace_text s rows)
  pub report : Appends report_old report_new (report_text s rows)

-- the report comes after the trace: a beginning of the trace was appended and nothing of the report, or the whole trace and a beginning of the report
pub record WritesBeginning (s : Setup) (trace_old trace_new report_old report_new : Option (List ℕ)) : Type 0 where
  pub rows : List Row
  pub run : IsRunOf s rows
  pub written : (AppendsBeginning trace_old trace_new (trace_text s rows) × Keeps report_old report_new)
      ⊎ (Appends trace_old trace_new (trace_text s rows) × AppendsBeginning report_old report_new (report_text s rows))

-- What every run of the scenario keeps, whoever computes it. Its two sinks hold bytes, and count their failures.
pub record KeepsPromise {A B : Type 0} (held : A → Option (List ℕ)) (failed : A → ℕ) (held_report : B → Option (List ℕ)) (failed_report : B → ℕ)
    (s : Setup) (trace_old trace_new : A) (report_old report_new : B) (result : Result Summary Fault) : Type 0 where
  -- the sinks get exactly the trace of the scenario's run, and the report on it; after a fault a beginning of that
  pub written : IfOk result (λ summary. WritesRun s (held trace_old) (held trace_new) (held_report report_old) (held_report report_new) summary.rows)
  pub beginning : OnErr result (WritesBeginning s (held trace_old) (held trace_new) (held_report report_old) (held_report report_new))
  -- where the trace's sink fails, at its flush too, the report's is left as it was
  pub first : failed trace_old < failed trace_new → report_new ≡ report_old
  -- no counter of a run that succeeds passes 2^63
  pub lasts : OnOk result (¬ (CounterOverflows s))
  -- a sink is said to have failed only if one did; where a run succeeds no sink has, where another fault comes the report's hasn't
  pub write : IsErrOf result fault.Write → (failed trace_old < failed trace_new) ⊎ (failed_report report_old < failed_report report_new)
  pub whole : OnOk result (failed trace_new ≡ failed trace_old)
  pub whole_report : OnOk result (failed_report report_new ≡ failed_report report_old)
  pub others_report : IfErr result (λ cause. cause ≢ fault.Write → failed_report report_new ≡ failed_report report_old)

-- what a run whose rows were tallied has come to, in short
abbrev pub summed : Result (List Row) Fault → Result Summary Fault
summed (Ok rows) = Ok (record { rows = length rows })
summed (Err cause) = Err cause

-- a beginning of the trace of the scenario's run was appended
pub record BeginsTrace (s : Setup) (trace_old trace_new : Option (List ℕ)) : Type 0 where
  pub rows : List Row
  pub run : IsRunOf s rows
  pub written : AppendsBeginning trace_old trace_new (trace_text s rows)

-- the report on the scenario's run would count past 2^63
pub record ReportOverflows (s : Setup) : Type 0 where
  pub rows : List Row
  pub run : IsRunOf s rows
  pub many : 2 ^ 63 < length rows
