use Rattle.table_rows.proofs.OpenRows.{left_within, row_line, row_read, row_unplaced}
use Rattle.table_rows.proofs.opened.behind_row.Goals as goal

pub before-line-requires : goal.before-line-requires
before-line-requires c = left_within c.args.text.now _ _ c.in-Ok.ensures.read

pub returns-in-Err-Torn-clause-none : goal.returns-in-Err-Torn-clause-none
returns-in-Err-Torn-clause-none c = λ _. row_line c.args.key.now c.args.plan.now c.args.number c.args.text.now (rw c.in-Err-Torn.field-0-is at c.in-Err-Torn.ensures.refused)

pub returns-clause-none : goal.returns-clause-none
returns-clause-none c = λ _.
    row_unplaced c.args.key.now c.args.plan.now c.args.number c.args.text.now _ _ c.in-Ok.ensures.read c.before-line.result.now c.before-line.ensures
    (c.in_ok-is_row.ensures.none c.if-is_row.false)

pub returns-then-is_row-clause-some : goal.returns-then-is_row-clause-some
returns-then-is_row-clause-some c =
    row_read c.args.key.now c.args.plan.now c.args.number c.args.text.now _ _ c.in-Ok.ensures.read c.before-line.result.now c.before-line.ensures
    (c.in_ok-is_row.ensures.are c.if-is_row.true) c.args.started.now.items _ c.in_ok-push.ensures.items
