use Rattle.std.proofs.Common.{subst, ◌∙◌, sym}
use Rattle.figures.specs.Notes.{IsNoteWord, RefusesNote}
use Rattle.figures.proofs.Handing.{handed, if_err_then}
use Rattle.figures.proofs.NoNotes.{figures_refused, note_refused}
use Rattle.figures.proofs.MetadataWords.{note_read, if_ok_then}
use Rattle.figures.proofs.notes.RunMetadata.read.Goals as goal

pub returns-clause-read : goal.returns-clause-read
returns-clause-read c =
    if_ok_then c.note_of_figures.result _ (IsNoteWord c.args.word.now) c.note_of_figures.ensures.made
    (λ n same. note_read c.args.word.now c.in_ok-figures.figures.items n c.in_ok-figures.ensures.read (same ∙ c.deref.ensures.value))

pub returns-clause-refused : goal.returns-clause-refused
returns-clause-refused c =
    if_err_then c.note_of_figures.result _ (RefusesNote c.args.word.now) c.note_of_figures.ensures.refused
    (λ e none. note_refused c.args.word.now c.in_ok-figures.figures.items _ e c.in_ok-figures.ensures.read c.deref.ensures.value none)

pub returns-in_err-figures-clause-refused : goal.returns-in_err-figures-clause-refused
returns-in_err-figures-clause-refused c =
    handed c.from_residual.result _ _ c.from_residual.ensures.1
    (λ e same. subst (RefusesNote c.args.word.now) (sym same) (figures_refused c.args.word.now _ c.in_err-figures.ensures.refused))
