use Rattle.std.proofs.Common.{◌≡◌, false, refl, subst, sym, true}
use Rattle.figures.specs.Cells.{AreCellsOf, SayCells}
use Rattle.figures.proofs.MetadataWords.{if_ok_then}
use Rattle.figures.proofs.Told.{cells_so, no_cells, no_words, not_cells}
use Rattle.figures.proofs.run_cells.are_cells_of.Goals as goal

pub returns-in_default-clause-none : goal.returns-in_default-clause-none
returns-in_default-clause-none c = λ _. no_words c.args.columns c.args.seed c.args.metadata.now c.args.text.now (c.in_default.ensures.none refl)

pub returns-in-Ok-clause-are : goal.returns-in-Ok-clause-are
returns-in-Ok-clause-are c =
    let note = c.args.metadata.now in
    if_ok_then c.say_cells.result _ (λ it. it ≡ true → AreCellsOf c.args.columns c.args.seed note c.args.text.now) c.say_cells.ensures.are
    (λ it say yes.
    cells_so c.args.columns c.args.seed note c.args.text.now c.in-Some.words.now c.in-Some.ensures.some c.in-Ok.cells.items c.in-Ok.ensures.read
    (subst (SayCells c.args.columns c.args.seed note) c.deref.ensures.value (say yes)))

pub returns-in-Ok-clause-none : goal.returns-in-Ok-clause-none
returns-in-Ok-clause-none c =
    let note = c.args.metadata.now in
    if_ok_then c.say_cells.result _ (λ it. it ≡ false → ¬ (AreCellsOf c.args.columns c.args.seed note c.args.text.now)) c.say_cells.ensures.none
    (λ it say no.
    not_cells c.args.columns c.args.seed note c.args.text.now c.in-Some.words.now c.in-Some.ensures.some c.in-Ok.cells.items c.in-Ok.ensures.read
    (λ told. say no (subst (SayCells c.args.columns c.args.seed note) (sym c.deref.ensures.value) told)))

pub returns-in-Err-Word-clause-none : goal.returns-in-Err-Word-clause-none
returns-in-Err-Word-clause-none c = λ _.
    no_cells c.args.columns c.args.seed c.args.metadata.now c.args.text.now c.in-Some.words.now c.in-Some.ensures.some (rw c.in-Err-Word.field-0-is at c.in-Err-Word.ensures.refused)
