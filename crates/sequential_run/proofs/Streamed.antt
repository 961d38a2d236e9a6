-- The trace of a run that is written as its rows come.
use Rattle.std.proofs.Common.{ℕ, List, ◌++◌, Option, Result, Ok, Err, ap, ◌∙◌, sym}
use Rattle.base.specs.declared.fault.Fault.{Fault}
use Rattle.scenario.specs.Setup.{Setup}
use Rattle.trace.specs.declared.row.Row.{Row}
use Rattle.trace.specs.Text.{rows_text, trace_text}
use Rattle.trace.specs.Sinks.{AppendsBeginning}
use Rattle.trace.proofs.Beginnings.{beginning-first, beginning-whole, beginning-of}
use Rattle.turns.specs.Beginning.{BeginsRun}
use Rattle.run_output.specs.Promise.{BeginsTrace}
use Rattle.run_output.specs.Written.{HasWritten}
use Rattle.run_output.proofs.Streaming.{text_on}

some_written : {T : Type 0} (s : Setup) (rows tallied : List Row) (old new : Option (List ℕ)) (o : Result T Fault) → HasWritten s rows old new tallied o → AppendsBeginning old new (trace_text s rows)
some_written s rows tallied old new (Ok x) wrote = beginning-whole old new (trace_text s rows) wrote.whole.0
some_written s rows tallied old new (Err e) wrote = wrote.part

-- what was written of the first rows of the run is a beginning of its trace
pub begins_trace : {T : Type 0} (s : Setup) (rows tallied : List Row) (old new : Option (List ℕ)) (o : Result T Fault) → BeginsRun s rows → HasWritten s rows old new tallied o → BeginsTrace s old new
begins_trace s rows tallied old new o begun wrote =
    let rest = begun.2.0 in
    record {
      rows = begun.0;
      run = begun.1;
      written =
          beginning-of old new (trace_text s rows ++ rows_text s rest) (trace_text s begun.0) (text_on s rows rest ∙ ap (trace_text s) (sym begun.2.1))
          (beginning-first old new (trace_text s rows) (rows_text s rest) (some_written s rows tallied old new o wrote));
    }
