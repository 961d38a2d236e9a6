use Rattle.table_rows.proofs.begun.read_up_to.Goals as goal

pub returns-in-Ok : goal.returns-in-Ok
returns-in-Ok c = (rw c.in-Ok.is at c.from_utf8.ensures.cases).0

pub returns-in-Err : goal.returns-in-Err
returns-in-Err c = absurd ((rw c.in-Err.is at c.from_utf8.ensures.cases).0 c.requires.front)
