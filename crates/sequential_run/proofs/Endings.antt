-- What a run leaves in its place once its first rows were taken.
use Rattle.std.proofs.Common.{◌≡◌, ◌+◌, ℕ, ◌⊎◌, inl, inr, List, [], Option, Result, Ok, Err, append-nil, ap, ◌∙◌, sym, subst, arith}
use Rattle.std.specs.Result.{IfOk, IfErr, IsErrOf}
use Rattle.std.specs.Io.KnownBytes.{Appends}
use Rattle.base.specs.declared.fault.Fault.{Fault}
use Rattle.base.specs.declared.fault.Fault.TheVariants.{CounterOverflow, Write, ThreadLost}
use Rattle.scenario.specs.Setup.{Setup, IsSound}
use Rattle.trace.specs.declared.row.Row.{Row}
use Rattle.trace.specs.Text.{trace_text}
use Rattle.member_laws.specs.Runs.{IsRunOf, CounterOverflows}
use Rattle.turns.specs.Beginning.{BeginsRun}
use Rattle.run_output.specs.Written.{sink_failures, HasWritten}
use Rattle.run_output.specs.Traced.{KeepsTrace}
use Rattle.sequential_run.proofs.Streamed.{begins_trace}
use Rattle.sequential_run.proofs.Reported.{wears_report, lasts_in_report}

module _ (s : Setup) (rows tallied : List Row) (held_old held_new : Option (List ℕ)) (failed_old failed_new : ℕ) where
  -- they were taken with this outcome, and then a fault came that has its cause
  pub breaks : (outcome : Result (Unit {0}) Fault) (fault : Fault) → BeginsRun s rows → HasWritten s rows held_old held_new tallied outcome → failed_new ≡ failed_old + sink_failures outcome
      → (fault ≡ CounterOverflow → CounterOverflows s ⊎ IsErrOf outcome CounterOverflow) → (fault ≡ Write → IsErrOf outcome Write) → (fault ≡ ThreadLost → sink_failures outcome ≡ 0) → KeepsTrace s held_old held_new failed_old failed_new (Err fault)
  breaks outcome fault begun wrote failures overflow write relay = record {
    run = tt;
    whole = tt;
    part = begins_trace s rows tallied held_old held_new outcome begun wrote;
    lasts = tt;
    lasts_report = tt;
    overflow = λ is. let same : fault ≡ CounterOverflow = cc in elim (overflow same) [ inl w ↦ inl w | inr e ↦ inr (wears_report s rows begun (wrote.overflow e)) ];
    write = λ is. let same : fault ≡ Write = cc in let one : sink_failures outcome ≡ 1 = ap sink_failures (write same) in omega (arith, one, failures);
    unfailed = tt;
    relay = λ is. let same : fault ≡ ThreadLost = cc in let none = relay same in omega (arith, none, failures);
  }

  -- they are all rows of the run
  pub comes_to : (outcome : Result (Unit {0}) Fault) (result : Result (List Row) Fault) → IsSound s → IsRunOf s rows → ¬ (CounterOverflows s) → HasWritten s rows held_old held_new tallied outcome → failed_new ≡ failed_old + sink_failures outcome
      → IfOk result (λ all. (outcome ≡ Ok tt) × (all ≡ tallied)) → IfErr result (λ f. outcome ≡ Err f) → KeepsTrace s held_old held_new failed_old failed_new result
  comes_to outcome (Ok all) sound run lasts wrote failures ok err =
      let was : HasWritten s rows held_old held_new tallied (Ok (tt {0})) = subst (HasWritten s rows held_old held_new tallied) ok.0 wrote in
      let same : all ≡ rows = ok.1 ∙ was.whole.1 in
      record {
        run = subst (IsRunOf s) (sym same) run;
        whole = subst (λ l. Appends held_old held_new (trace_text s l)) (sym same) was.whole.0;
        part = tt;
        lasts = lasts;
        lasts_report = lasts_in_report s rows sound run was.lasts;
        overflow = λ is. cc;
        write = λ is. cc;
        unfailed = let none : sink_failures outcome ≡ 0 = ap sink_failures ok.0 in omega (arith, none, failures);
        relay = λ is. cc;
      }
  comes_to outcome (Err fault) sound run lasts wrote failures ok err =
      breaks outcome fault (rows, run, ([], sym (append-nil rows))) wrote failures (λ is. inr (err ∙ ap Err is)) (λ is. err ∙ ap Err is) (λ is. ap sink_failures (err ∙ ap Err is))
