use Rattle.std.proofs.Common.{refl}
use Rattle.table_rows.proofs.OneLine.{comma_there, feed_there, line_read, note_there, space_there}
use Rattle.table_rows.proofs.lines.read_note.Goals as goal

pub returns-in_default-clause-refused : goal.returns-in_default-clause-refused
returns-in_default-clause-refused c = λ line. space_there c.args.text.now line (c.in_default.ensures.none refl)

pub returns-in_default-split_once-clause-refused : goal.returns-in_default-split_once-clause-refused
returns-in_default-split_once-clause-refused c = λ line.
    rw c.in_default-split_once.is at (comma_there c.args.text.now line c.in-Some.noted.now c.in-Some.ensures.some c.split_once.result c.split_once.ensures.cases)

pub returns-in_default-split_once-2-clause-refused : goal.returns-in_default-split_once-2-clause-refused
returns-in_default-split_once-2-clause-refused c = λ line.
    let comma = rw c.in-Some-split_once.is at (comma_there c.args.text.now line c.in-Some.noted.now c.in-Some.ensures.some c.split_once.result c.split_once.ensures.cases) in
    rw c.in_default-split_once-2.is at (feed_there c.args.text.now line c.in-Some-split_once.rest.now c.split_once-2.result comma.1 c.split_once-2.ensures.cases)

pub returns-in-Err-Word-clause-refused : goal.returns-in-Err-Word-clause-refused
returns-in-Err-Word-clause-refused c = λ line.
    let comma = rw c.in-Some-split_once.is at (comma_there c.args.text.now line c.in-Some.noted.now c.in-Some.ensures.some c.split_once.result c.split_once.ensures.cases) in
    (rw c.in-Err-Word.field-0-is at c.in-Err-Word.ensures.refused) line.1.one.note (note_there c.args.text.now line c.in-Some-split_once.word.now comma.0)

pub returns-in-Ok-clause-read : goal.returns-in-Ok-clause-read
returns-in-Ok-clause-read c =
    line_read c.args.text.now c.in-Some.noted.now c.in-Some.ensures.some c.split_once.result c.in-Some-split_once.word c.in-Some-split_once.rest c.split_once-2.result
    c.in-Some-split_once-2._body c.in-Some-split_once-2.left c.in-Ok.note _
    c.in-Some-split_once.is c.split_once.ensures.cases c.in-Some-split_once-2.is c.split_once-2.ensures.cases c.in-Ok.ensures.read refl
