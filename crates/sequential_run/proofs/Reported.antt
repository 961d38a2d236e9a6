-- A run of more rows than its report can count.
use Rattle.std.proofs.Common.{◌≤◌, ◌<◌, ◌^◌, List, length, ap, ◌∙◌, arith}
use Rattle.std.proofs.lemmas.List.{length-append}
use Rattle.scenario.specs.Setup.{Setup, IsSound}
use Rattle.trace.specs.declared.row.Row.{Row}
use Rattle.member_laws.specs.Runs.{IsRunOf}
use Rattle.turns.specs.Beginning.{BeginsRun}
use Rattle.run_output.specs.Promise.{ReportOverflows}
use Rattle.sequential_run.proofs.Runs.{same_rows}

-- where there are as many as the report can't count, the run has no fewer
pub wears_report : (s : Setup) (front : List Row) → BeginsRun s front → 2 ^ 63 < length front → ReportOverflows s
wears_report s front begun many = record {
  rows = begun.0;
  run = begun.1;
  many = let all = ap length begun.2.1 ∙ length-append front begun.2.0 in omega (arith, all, many);
}

-- where the rows of the run were counted, its report can count them
pub lasts_in_report : (s : Setup) (rows : List Row) → IsSound s → IsRunOf s rows → length rows ≤ 2 ^ 63 → ¬ (ReportOverflows s)
lasts_in_report s rows sound run few w =
    let same = ap length (same_rows s rows w.rows sound run w.run) in
    let many = w.many in
    omega (arith, same, few, many)
