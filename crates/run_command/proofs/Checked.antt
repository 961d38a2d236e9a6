-- What became of a run that had passed its checks, which change no file.
use Rattle.std.proofs.Common.{◌≡◌, ℕ, List, Result, Ok, Err, IfOk, IfErr, OnOk, subst, inr}
use Rattle.base.specs.declared.fault.Fault.{Fault}
use Rattle.scenario.specs.Setup.{Setup}
use Rattle.scenario.specs.Division.{Deal}
use Rattle.files.specs.Files.{Making}
use Rattle.run_output.specs.declared.summary.Summary.{Summary}
use Rattle.command_line.specs.declared.words.RunWords.{RunWords}
use Rattle.command_line.specs.declared.failure.Failure.{Failure}
use Rattle.scenario_files.specs.Checks.{PassesChecks}
use Rattle.scenario_files.specs.Shelves.{Shelf}
use Rattle.run_command.specs.Outcomes.{AreApart, FailsAsked, RunFails, RunsAll, StoresAsked}

module _ (release : List ℕ) (run : RunWords) (workers : ℕ) (s : Setup) (deal : Deal) where
  -- it was done
  pub checked_done : (before between after : Shelf) (making same_making : Making) (r : Result Summary Failure) → PassesChecks before run workers s deal → between ≡ before → same_making ≡ making
      → OnOk r (AreApart run.page same_making run) → IfOk r (λ summary. StoresAsked run.page s release between after run summary.rows)
      → IfOk r (λ summary. RunsAll release before after making run summary.rows)
  checked_done before between after making same_making (Ok summary) checks same is_making apart stored = record {
    workers = workers;
    scenario = s;
    deal = deal;
    checks = checks;
    apart = subst (λ (m : Making). AreApart run.page m run) is_making apart;
    stored = subst (λ (shelf : Shelf). StoresAsked run.page s release shelf after run summary.rows) same stored;
  }
  checked_done before between after making same_making (Err failure) checks same is_making apart stored = tt

  -- it wasn't
  pub checked_failed : (Ends : ℕ → Setup → ℕ → Fault → Type 0) (old new : ℕ) (before between after : Shelf) (making same_making : Making) (r : Result Summary Failure)
      → PassesChecks before run workers s deal → between ≡ before → same_making ≡ making → new ≡ old
      → IfErr r (FailsAsked run.page (Ends new s workers) s release between after same_making run)
      → IfErr r (RunFails (Ends old) release before after making run)
  checked_failed Ends old new before between after making same_making (Ok summary) checks same is_making counted failed = tt
  checked_failed Ends old new before between after making same_making (Err failure) checks same is_making counted failed =
      let begun = subst (λ (shelf : Shelf). FailsAsked run.page (Ends new s workers) s release shelf after same_making run failure) same failed in
      let apart = subst (λ (m : Making). FailsAsked run.page (Ends new s workers) s release before after m run failure) is_making begun in
      inr (record {
        workers = workers;
        scenario = s;
        deal = deal;
        checks = checks;
        cause = subst (λ (n : ℕ). FailsAsked run.page (Ends n s workers) s release before after making run failure) counted apart;
      })
