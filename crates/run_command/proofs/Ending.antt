-- By which faults a run may end.
use Rattle.std.proofs.Common.{◌≡◌, ◌≢◌, ◌⊎◌, List, Result, Ok, Err, IfErr, ap}
use Rattle.std.specs.Result.{IsErrOf}
use Rattle.base.specs.declared.fault.Fault.{Fault}
use Rattle.base.specs.declared.fault.Fault.TheVariants.{CounterOverflow, ThreadLost}
use Rattle.scenario.specs.Setup.{Setup}
use Rattle.trace.specs.declared.row.Row.{Row}
use Rattle.member_laws.specs.Runs.{CounterOverflows}
use Rattle.run_output.specs.Promise.{ReportOverflows, summed}
use Rattle.run_command.specs.Outcomes.{MayEndRun}

module _ (s : Setup) (Loses : Type 0) where
  -- by the causes of its own fault
  pub may_end : {T : Type 0} (result : Result T Fault) → (IsErrOf result CounterOverflow → CounterOverflows s ⊎ ReportOverflows s) → (IsErrOf result ThreadLost → Loses) → IfErr result (MayEndRun s Loses)
  may_end (Ok x) overflow threads = tt
  may_end (Err f) overflow threads = (λ is. overflow (ap Err is), λ is. threads (ap Err is))

  -- by none of both
  pub may_end_by_others : {T : Type 0} (result : Result T Fault) → IfErr result (λ f. (f ≢ CounterOverflow) × (f ≢ ThreadLost)) → IfErr result (MayEndRun s Loses)
  may_end_by_others (Ok x) never = tt
  may_end_by_others (Err f) never = (λ is. absurd (never.0 is), λ is. absurd (never.1 is))

  -- the same of its summary
  pub may_end_summed : (result : Result (List Row) Fault) → IfErr result (MayEndRun s Loses) → IfErr (summed result) (MayEndRun s Loses)
  may_end_summed (Ok rows) may = tt
  may_end_summed (Err f) may = may

-- a summary has the fault of what it sums up
pub summed_overflow : (result : Result (List Row) Fault) → IsErrOf (summed result) CounterOverflow → IsErrOf result CounterOverflow
summed_overflow (Err f) is = let same : f ≡ CounterOverflow = cc in ap Err same
summed_overflow (Ok rows) is = absurd (cc is)
