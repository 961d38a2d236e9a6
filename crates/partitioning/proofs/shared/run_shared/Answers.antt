use Rattle.std.proofs.Common.{◌≡◌, ◌≤◌, ℕ, List, Result, Ok, Err, OnOk, refl, arith}
use Rattle.std.proofs.lemmas.Result.{on_ok_weaker}
use Rattle.base.specs.declared.fault.Fault.TheVariants.{Memory}
use Rattle.trace.specs.declared.row.Row.{Row}
use Rattle.run_output.specs.Promise.{ReportOverflows}
use Rattle.run_output.proofs.Faults.{if_same, ok_too, on_came}
use Rattle.run_output.proofs.Early.{no_memory}
use Rattle.partitioning.specs.Closed.{ClosesRelays, SettlesBoard}
use Rattle.partitioning.proofs.shared.run_shared.Goals as goal

pub returns-in-Err-clause-promise : goal.returns-in-Err-clause-promise
returns-in-Err-clause-promise g c =
    c.end_run.ensures.promise c.args.place.now.trace
    (no_memory c.args.scenario.now (g.A.Sink.held c.args.place.now.trace) (g.A.Sink.failed c.args.place.now.trace) (Err Memory) c.end-end.ensures.sound refl)

pub returns-in-Err-clause-run : goal.returns-in-Err-clause-run
returns-in-Err-clause-run g c = if_same _ c.end_run.result (Err Memory) c.end_run.ensures.came tt

pub returns-in-Err-clause-named : goal.returns-in-Err-clause-named
returns-in-Err-clause-named g c = if_same _ c.end_run.result (Err Memory) c.end_run.ensures.came tt

pub returns-in-Err-clause-gathered : goal.returns-in-Err-clause-gathered
returns-in-Err-clause-gathered g c = if_same _ c.end_run.result (Err Memory) c.end_run.ensures.came tt

pub returns-in-Err-clause-lasts_report : goal.returns-in-Err-clause-lasts_report
returns-in-Err-clause-lasts_report g c =
    on_came {U = List Row} (¬ (ReportOverflows c.args.scenario.now)) c.end_run.result (Err Memory) (ok_too c.end_run.result (Err Memory) c.end_run.ensures.came) tt

-- one worker needs no relays
one_alone : {T E : Type 0} (P : Type 0) (workers : ℕ) (result : Result T E) → workers ≡ 1 → OnOk result (2 ≤ workers → P)
one_alone P workers (Ok x) one = λ several. absurd (omega (arith, one, several))
one_alone P workers (Err e) one = tt

-- what follows of two facts, where the run came to its end
both_ok : {T E : Type 0} {A B P : Type 0} (result : Result T E) → (A → B → P) → OnOk result A → OnOk result B → OnOk result P
both_ok (Ok x) so one other = so one other
both_ok (Err e) so one other = tt

pub returns-then-count-eq1-clause-relayed : goal.returns-then-count-eq1-clause-relayed
returns-then-count-eq1-clause-relayed g c = one_alone (ClosesRelays c.args.scenario.now c.args.account.now) c.args.workers c.run_streamed.result (omega arith)

pub returns-in-Ok-clause-relayed : goal.returns-in-Ok-clause-relayed
returns-in-Ok-clause-relayed g c = on_ok_weaker c.run_by_rings.result (λ closed several. (c.in-Ok.field-0.parts, c.in-Ok.ensures.divides, closed)) c.run_by_rings.ensures.relayed

pub returns-in-Err-clause-relayed : goal.returns-in-Err-clause-relayed
returns-in-Err-clause-relayed g c =
    on_came {U = List Row} (2 ≤ c.args.workers → ClosesRelays c.args.scenario.now c.args.account.now) c.end_run.result (Err Memory) (ok_too c.end_run.result (Err Memory) c.end_run.ensures.came) tt

pub returns-then-count-eq1-clause-settled : goal.returns-then-count-eq1-clause-settled
returns-then-count-eq1-clause-settled g c = one_alone (SettlesBoard c.args.scenario.now c.args.account.now) c.args.workers c.run_streamed.result (omega arith)

pub returns-in-Ok-clause-settled : goal.returns-in-Ok-clause-settled
returns-in-Ok-clause-settled g c =
    both_ok c.run_by_rings.result (λ closed settled several. (c.in-Ok.field-0.parts, c.in-Ok.ensures.divides, closed, settled)) c.run_by_rings.ensures.relayed c.run_by_rings.ensures.settled

pub returns-in-Err-clause-settled : goal.returns-in-Err-clause-settled
returns-in-Err-clause-settled g c =
    on_came {U = List Row} (2 ≤ c.args.workers → SettlesBoard c.args.scenario.now c.args.account.now) c.end_run.result (Err Memory) (ok_too c.end_run.result (Err Memory) c.end_run.ensures.came) tt
