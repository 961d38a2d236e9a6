use Rattle.std.proofs.Common.{lit<, arith}
use Rattle.figures.proofs.Handing.{handed}
use Rattle.figures.proofs.NoNotes.{no_counts_of}
use Rattle.figures.proofs.NoteParts.{four_counts, missing, no_counts, too_few_counts}
use Rattle.figures.proofs.note_words.counts_of_figures.Goals as goal

pub returns-then-figures-ne1-clause-made : goal.returns-then-figures-ne1-clause-made
returns-then-figures-ne1-clause-made c = no_counts c.args.figures.now c.if-figures-ne1.true

pub returns-then-figures-lt4-clause-refused : goal.returns-then-figures-lt4-clause-refused
returns-then-figures-lt4-clause-refused c = too_few_counts c.args.figures.now c.if-figures-ne1.false c.if-figures-lt4.true

pub returns-in_err-alarms-clause-refused : goal.returns-in_err-alarms-clause-refused
returns-in_err-alarms-clause-refused c =
    handed c.from_residual.result _ _ c.from_residual.ensures.1
    (λ e same. no_counts_of c.args.figures.now e (missing c.args.figures.now 0 _ (lit< tt) c.if-figures-ne1.false (omega (arith, c.if-figures-lt4.false)) c.in_err-alarms.ensures.refused))

pub returns-in_err-deaths-clause-refused : goal.returns-in_err-deaths-clause-refused
returns-in_err-deaths-clause-refused c =
    handed c.from_residual-in_err-deaths.result _ _ c.from_residual-in_err-deaths.ensures.1
    (λ e same. no_counts_of c.args.figures.now e (missing c.args.figures.now 1 _ (lit< tt) c.if-figures-ne1.false (omega (arith, c.if-figures-lt4.false)) c.in_err-deaths.ensures.refused))

pub returns-in_err-deaths_well-clause-refused : goal.returns-in_err-deaths_well-clause-refused
returns-in_err-deaths_well-clause-refused c =
    handed c.from_residual-in_err-deaths_well.result _ _ c.from_residual-in_err-deaths_well.ensures.1
    (λ e same. no_counts_of c.args.figures.now e (missing c.args.figures.now 2 _ (lit< tt) c.if-figures-ne1.false (omega (arith, c.if-figures-lt4.false)) c.in_err-deaths_well.ensures.refused))

pub returns-in_err-time-clause-refused : goal.returns-in_err-time-clause-refused
returns-in_err-time-clause-refused c =
    handed c.from_residual-in_err-time.result _ _ c.from_residual-in_err-time.ensures.1
    (λ e same. no_counts_of c.args.figures.now e (missing c.args.figures.now 3 _ (lit< tt) c.if-figures-ne1.false (omega (arith, c.if-figures-lt4.false)) c.in_err-time.ensures.refused))

pub returns-clause-made : goal.returns-clause-made
returns-clause-made c =
    four_counts c.args.figures.now _ c.if-figures-ne1.false (omega (arith, c.if-figures-lt4.false)) _ _ _ _ c.in_ok-alarms.ensures.there c.in_ok-deaths.ensures.there
    c.in_ok-deaths_well.ensures.there c.in_ok-time.ensures.there
