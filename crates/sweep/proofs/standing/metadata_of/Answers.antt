use Rattle.std.proofs.Common.{subst, sym}
use Rattle.figures.specs.Notes.{IsNoteWord}
use Rattle.sweep.proofs.Cells.{word_utf8}
use Rattle.sweep.proofs.standing.metadata_of.Goals as goal

pub returns-in_default-clause-none : goal.returns-in_default-clause-none
returns-in_default-clause-none c = λ _ note says. (rw c.in_default.is at c.from_utf8.ensures.cases).0 (word_utf8 c.args.word.now note says)

pub returns-in-Ok-read-clause-some : goal.returns-in-Ok-read-clause-some
returns-in-Ok-read-clause-some c =
    let read = (rw c.in-Ok.is at c.from_utf8.ensures.cases).0 in
    subst (λ w. IsNoteWord w c.in-Ok-read.metadata) read c.in-Ok-read.ensures.read

pub returns-in-Err-Word-clause-none : goal.returns-in-Err-Word-clause-none
returns-in-Err-Word-clause-none c = λ _ note says.
    let read = (rw c.in-Ok.is at c.from_utf8.ensures.cases).0 in
    (rw c.in-Err-Word.field-0-is at c.in-Err-Word.ensures.refused) note (subst (λ w. IsNoteWord w note) (sym read) says)
