use Rattle.std.proofs.Common.{sym, subst, arith}
use Rattle.figures.specs.Notes.{RefusesNoteOf}
use Rattle.figures.proofs.Handing.{handed}
use Rattle.figures.proofs.NoNotes.{behind_five, counts_refused, first_missing, fifth_missing, fourth_missing, no_note_of, note_made, second_missing, third_missing, times_refused, too_few}
use Rattle.figures.proofs.note_words.note_of_figures.Goals as goal

pub returns-then-figures-lt5-clause-refused : goal.returns-then-figures-lt5-clause-refused
returns-then-figures-lt5-clause-refused c = too_few c.args.figures.now (omega arith)

pub returns-in_err-false_suspect-clause-refused : goal.returns-in_err-false_suspect-clause-refused
returns-in_err-false_suspect-clause-refused c =
    handed c.from_residual.result _ _ c.from_residual.ensures.1
    (λ e same. no_note_of c.args.figures.now e (first_missing c.args.figures.now _ c.in_err-false_suspect.ensures.refused))

pub returns-in_err-thrown_out-clause-refused : goal.returns-in_err-thrown_out-clause-refused
returns-in_err-thrown_out-clause-refused c =
    handed c.from_residual-in_err-thrown_out.result _ _ c.from_residual-in_err-thrown_out.ensures.1
    (λ e same. no_note_of c.args.figures.now e (second_missing c.args.figures.now _ c.in_err-thrown_out.ensures.refused))

pub returns-in_err-revived-clause-refused : goal.returns-in_err-revived-clause-refused
returns-in_err-revived-clause-refused c =
    handed c.from_residual-in_err-revived.result _ _ c.from_residual-in_err-revived.ensures.1
    (λ e same. no_note_of c.args.figures.now e (third_missing c.args.figures.now _ c.in_err-revived.ensures.refused))

pub returns-in_err-sent-clause-refused : goal.returns-in_err-sent-clause-refused
returns-in_err-sent-clause-refused c =
    handed c.from_residual-in_err-sent.result _ _ c.from_residual-in_err-sent.ensures.1
    (λ e same. no_note_of c.args.figures.now e (fourth_missing c.args.figures.now _ c.in_err-sent.ensures.refused))

pub returns-in_err-member_ticks-clause-refused : goal.returns-in_err-member_ticks-clause-refused
returns-in_err-member_ticks-clause-refused c =
    handed c.from_residual-in_err-member_ticks.result _ _ c.from_residual-in_err-member_ticks.ensures.1
    (λ e same. no_note_of c.args.figures.now e (fifth_missing c.args.figures.now _ c.in_err-member_ticks.ensures.refused))

pub returns-in_err-incidents-clause-refused : goal.returns-in_err-incidents-clause-refused
returns-in_err-incidents-clause-refused c =
    handed c.from_residual-in_err-incidents.result _ _ c.from_residual-in_err-incidents.ensures.1
    (λ e same. subst (RefusesNoteOf c.args.figures.now) (sym same) (counts_refused c.args.figures.now _ _ (behind_five c.args.figures.now) c.in_err-incidents.ensures.refused))

pub returns-in_err-crashes-clause-refused : goal.returns-in_err-crashes-clause-refused
returns-in_err-crashes-clause-refused c =
    handed c.from_residual-in_err-crashes.result _ _ c.from_residual-in_err-crashes.ensures.1
    (λ e same. subst (RefusesNoteOf c.args.figures.now) (sym same) (times_refused c.args.figures.now _ _ _ (behind_five c.args.figures.now) c.times_in.ensures c.in_err-crashes.ensures.refused))

pub returns-clause-made : goal.returns-clause-made
returns-clause-made c =
    note_made c.args.figures.now _ _ _ (omega (arith, c.if-figures-lt5.false)) _ _ _ _ _ c.in_ok-false_suspect.ensures.there c.in_ok-thrown_out.ensures.there c.in_ok-revived.ensures.there
    c.in_ok-sent.ensures.there c.in_ok-member_ticks.ensures.there (behind_five c.args.figures.now) c.in_ok-incidents.ensures.made c.times_in.ensures c.in_ok-crashes.ensures.made
