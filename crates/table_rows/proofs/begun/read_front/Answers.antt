use Rattle.std.proofs.Common.{[], drop, subst, sym}
use Rattle.std.specs.Str.{IsValidUpTo}
use Rattle.table_rows.proofs.Standing.{front_read, whole_read}
use Rattle.table_rows.proofs.begun.read_front.Goals as goal

pub returns-in-Ok : goal.returns-in-Ok
returns-in-Ok c = ([], whole_read c.args.text.now c.in-Ok.words.now (rw c.in-Ok.is at c.from_utf8.ensures.cases).0)

pub read_up_to-requires : goal.read_up_to-requires
read_up_to-requires c = subst (IsValidUpTo c.args.text.now) (sym c.valid_up_to.ensures) (rw c.in-Err.is at c.from_utf8.ensures.cases).1

pub returns-in-Err : goal.returns-in-Err
returns-in-Err c =
    let valid = subst (IsValidUpTo c.args.text.now) (sym c.valid_up_to.ensures) (rw c.in-Err.is at c.from_utf8.ensures.cases).1 in
    (drop c.valid_up_to.result c.args.text.now, front_read c.args.text.now c.read_up_to.result.now c.valid_up_to.result valid c.read_up_to.ensures)
