-- What a run keeps that writes a page beside its trace and its report.
use Rattle.std.specs.Prelude.{◌≡◌, ◌≢◌, ◌⊎◌, ◌<◌, ℕ, List, Option, Result, IfOk, IfErr, OnOk, OnErr, IsErrOf}
use Rattle.base.specs.declared.fault.Fault.{Fault}
use Rattle.base.specs.declared.fault.Fault.TheVariants as fault
use Rattle.scenario.specs.Setup.{Setup}
use Rattle.member_laws.specs.Runs.{CounterOverflows}
use Rattle.run_output.specs.declared.summary.Summary.{Summary}
use Rattle.ticks.specs.declared.tick.Tick.{Tick}
use Rattle.page_runs.specs.Pages.{WritesRunAndPage, BeginsRunAndPage}

-- What every run of the scenario keeps that writes a page of this name by this release. Its three sinks hold bytes, and count their failures.
pub record KeepsPagePromise {A B C : Type 0} (held : A → Option (List ℕ)) (failed : A → ℕ) (held_report : B → Option (List ℕ)) (failed_report : B → ℕ)
    (held_page : C → Option (List ℕ)) (failed_page : C → ℕ) (time : Option Tick) (name release : List ℕ) (s : Setup)
    (trace_old trace_new : A) (report_old report_new : B) (page_old page_new : C) (result : Result Summary Fault) : Type 0 where
  -- the sinks get exactly the trace of the scenario's run, the report on it and its page; after a fault a beginning of that
  pub written : IfOk result (λ summary. WritesRunAndPage time name release s (held trace_old) (held trace_new) (held_report report_old) (held_report report_new)
      (held_page page_old) (held_page page_new) summary.rows)
  pub beginning : OnErr result (BeginsRunAndPage time name release s (held trace_old) (held trace_new) (held_report report_old) (held_report report_new)
      (held_page page_old) (held_page page_new))
  -- where the trace's sink fails, at its flush too, the others are left as they were, and the page's where the report's does
  pub first : failed trace_old < failed trace_new → report_new ≡ report_old
  pub second : (failed trace_old < failed trace_new) ⊎ (failed_report report_old < failed_report report_new) → page_new ≡ page_old
  -- no counter of a run that succeeds passes 2^63
  pub lasts : OnOk result (¬ (CounterOverflows s))
  -- a sink is said to have failed only if one did; where a run succeeds none has, and where another fault comes neither the report's
  -- nor the page's
  pub write : IsErrOf result fault.Write
      → (failed trace_old < failed trace_new) ⊎ ((failed_report report_old < failed_report report_new) ⊎ (failed_page page_old < failed_page page_new))
  pub whole : OnOk result (failed trace_new ≡ failed trace_old)
  pub whole_report : OnOk result (failed_report report_new ≡ failed_report report_old)
  pub whole_page : OnOk result (failed_page page_new ≡ failed_page page_old)
  pub others_report : IfErr result (λ cause. cause ≢ fault.Write → failed_report report_new ≡ failed_report report_old)
  pub others_page : IfErr result (λ cause. cause ≢ fault.Write → failed_page page_new ≡ failed_page page_old)
