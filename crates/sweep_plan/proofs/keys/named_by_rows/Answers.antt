use Rattle.sweep_plan.proofs.Names.{rows_found, rows_passed}
use Rattle.sweep_plan.proofs.keys.named_by_rows.Goals as goal

pub returns-in-Some : goal.returns-in-Some
returns-in-Some c =
    rows_found c.args.word.now c.args.rows.now c.loop-row.row-index _ c.named_by_row.result c.in-Some.key c.loop-row-test.true c.named_by_row.ensures c.in-Some.is c.loop-row.invariant

pub loop-row-preserved : goal.loop-row-preserved
loop-row-preserved c = rows_passed c.args.word.now c.args.rows.now c.loop-row.row-index _ c.named_by_row.result c.loop-row-test.true c.named_by_row.ensures c.in_default.is c.loop-row.invariant
