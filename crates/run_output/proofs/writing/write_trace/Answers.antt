use Rattle.std.proofs.Common.{◌++◌}
use Rattle.trace.specs.Text.{header, rows_text}
use Rattle.trace.proofs.Beginnings.{Appends-then, beginning-first, beginning-then, beginning-whole, Appends-kept}
use Rattle.run_output.proofs.Faults.{on_err}
use Rattle.run_output.proofs.writing.write_trace.Goals as goal

pub returns-in_err-write_head-clause-part : goal.returns-in_err-write_head-clause-part
returns-in_err-write_head-clause-part g c = on_err c.from_residual.result (beginning-first _ _ header (rows_text c.args.scenario.now c.args.rows.now) c.in_err-write_head.ensures.part)

pub returns-in_err-write_rows-clause-part : goal.returns-in_err-write_rows-clause-part
returns-in_err-write_rows-clause-part g c =
    on_err c.from_residual-in_err-write_rows.result (beginning-then _ _ _ header (rows_text c.args.scenario.now c.args.rows.now) c.in_ok-write_head.ensures.whole c.in_err-write_rows.ensures.part)

pub returns-clause-part : goal.returns-clause-part
returns-clause-part g c =
    let lines = rows_text c.args.scenario.now c.args.rows.now in
    on_err c.flush.result (beginning-whole _ _ (header ++ lines) (Appends-kept _ _ _ (header ++ lines) (Appends-then _ _ _ header lines c.in_ok-write_head.ensures.whole c.in_ok-write_rows.ensures.whole) c.flush.ensures.same))
