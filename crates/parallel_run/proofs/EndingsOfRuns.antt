-- What a run by rings leaves in its place once it has ended.
use Rattle.std.proofs.Common.{◌≡◌, ◌≢◌, ◌+◌, ℕ, inl, inr, List, Option, Result, Ok, Err, ap, ◌∙◌, sym, subst, refl}
use Rattle.std.specs.Result.{IfOk, OnOk}
use Rattle.base.specs.declared.fault.Fault.{Fault}
use Rattle.base.specs.declared.fault.Fault.TheVariants.{CounterOverflow, Write}
use Rattle.scenario.specs.Setup.{Setup}
use Rattle.trace.specs.declared.row.Row.{Row}
use Rattle.member_laws.specs.Runs.{CounterOverflows}
use Rattle.turns.specs.Beginning.{BeginsRun}
use Rattle.lookahead_windows.specs.Faults.{first_fault}
use Rattle.lookahead_windows.proofs.FirstFaults.{first_either, first_relay}
use Rattle.run_output.specs.Written.{sink_failures, HasWritten}
use Rattle.run_output.specs.Traced.{KeepsTrace}
use Rattle.sequential_run.proofs.Endings.{breaks}
use Rattle.parallel_run.specs.Writing.{fault_beside}

module _ (s : Setup) (rows tallied : List Row) (held_old held_new : Option (List ℕ)) (failed_old failed_new : ℕ) where
  -- beside the fault of who writes came one by which a worker may end
  pub breaks_off : (outcome : Result (Unit {0}) Fault) (fault : Fault) → BeginsRun s rows → HasWritten s rows held_old held_new tallied outcome → failed_new ≡ failed_old + sink_failures outcome
      → (fault ≡ CounterOverflow → CounterOverflows s) × (fault ≢ Write) → KeepsTrace s held_old held_new failed_old failed_new (Err (fault_beside outcome fault))
  breaks_off (Ok x) fault begun wrote failures may = breaks s rows tallied held_old held_new failed_old failed_new (Ok x) fault begun wrote failures (λ is. inl (may.0 is)) (λ is. absurd (may.1 is)) (λ is. refl)
  breaks_off (Err own) fault begun wrote failures may =
      breaks s rows tallied held_old held_new failed_old failed_new (Err own) (first_fault own fault) begun wrote failures
      (λ is. elim (first_either own fault) [ inl e ↦ inr (ap Err (sym e ∙ is)) | inr e ↦ inl (may.0 (sym e ∙ is)) ])
      (λ is. elim (first_either own fault) [ inl e ↦ ap Err (sym e ∙ is) | inr e ↦ absurd (may.1 (sym e ∙ is)) ])
      (λ is. ap (λ f. sink_failures {T = Unit {0}} (Err f)) (first_relay own fault is).0)

-- what was gathered is what all rows report
pub gathers : (gathered : List Row → Type 0) (outcome : Result (Unit {0}) Fault) (tallied : List Row) (result : Result (List Row) Fault) → OnOk outcome (gathered tallied)
    → IfOk result (λ all. (outcome ≡ Ok tt) × (all ≡ tallied)) → IfOk result gathered
gathers gathered outcome tallied (Ok all) has ok = subst gathered (sym ok.1) (subst (λ o. OnOk o (gathered tallied)) ok.0 has)
gathers gathered outcome tallied (Err fault) has ok = tt
