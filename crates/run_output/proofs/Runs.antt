-- A sound scenario has a run, of which nothing at all is a beginning.
use Rattle.std.proofs.Common.{ℕ, List, Option, inl}
use Rattle.base.specs.Run.{handled, trace, run-exists}
use Rattle.scenario.specs.Setup.{Setup, IsSound}
use Rattle.trace.specs.declared.row.Row.{Row}
use Rattle.trace.specs.Text.{trace_text}
use Rattle.trace.proofs.Beginnings.{beginning-none, Keeps-same}
use Rattle.member.specs.Step.{step}
use Rattle.member.specs.Opening.{opening}
use Rattle.member.proofs.Fair.{steps_later}
use Rattle.member_laws.specs.Runs.{IsRunOf}
use Rattle.run_output.specs.Promise.{BeginsTrace, WritesBeginning}

pub some_run : (s : Setup) → IsSound s → (rows : List Row) × IsRunOf s rows
some_run s sound =
    let later = steps_later s sound in
    (trace (step s) later s.end (opening s), (handled (step s) later s.end (opening s), run-exists (step s) later s.end (opening s)))

-- nothing written is a beginning
pub writes_nothing : (s : Setup) (trace report : Option (List ℕ)) → IsSound s → WritesBeginning s trace trace report report
writes_nothing s trace report sound =
    let run = some_run s sound in
    record { rows = run.0; run = run.1; written = inl (beginning-none trace trace (trace_text s run.0) (Keeps-same trace), Keeps-same report) }

-- neither of the trace
pub begins_nothing : (s : Setup) (held : Option (List ℕ)) → IsSound s → BeginsTrace s held held
begins_nothing s held sound =
    let run = some_run s sound in
    record { rows = run.0; run = run.1; written = beginning-none held held (trace_text s run.0) (Keeps-same held) }
