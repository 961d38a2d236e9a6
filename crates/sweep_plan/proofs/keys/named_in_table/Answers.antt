use Rattle.sweep_plan.proofs.Names.{row_found, row_passed}
use Rattle.sweep_plan.proofs.keys.named_in_table.Goals as goal

pub returns-then-is_row_named : goal.returns-then-is_row_named
returns-then-is_row_named c =
    row_found c.args.table c.args.word.now c.args.rows.now c.loop-row.row-index _ c.is_row_named.result c.loop-row-test.true c.is_row_named.ensures c.if-is_row_named.true c.loop-row.invariant

pub loop-row-preserved : goal.loop-row-preserved
loop-row-preserved c =
    row_passed c.args.table c.args.word.now c.args.rows.now c.loop-row.row-index _ c.is_row_named.result c.loop-row-test.true c.is_row_named.ensures c.if-is_row_named.false c.loop-row.invariant
