use Rattle.std.proofs.Common.{◌∙◌, sym, true≢false}
use Rattle.figures.proofs.Told.{say_not, say_so}
use Rattle.figures.proofs.run_cells.say_cells.Goals as goal

pub returns-clause-are : goal.returns-clause-are
returns-clause-are c = λ yes.
    say_so c.args.columns c.args.seed c.args.metadata.now c.args.cells.now c.in_ok-expected.expected.items _ _ c.figures_with-figures.ensures.agrees c.seed_with-seed.ensures c.in_ok-expected.ensures
    (c.are_same.ensures.0 yes ∙ c.deref.ensures.value)

pub returns-clause-none : goal.returns-clause-none
returns-clause-none c = λ no.
    say_not c.args.columns c.args.seed c.args.metadata.now c.args.cells.now c.in_ok-expected.expected.items _ _ c.figures_with-figures.ensures.agrees c.figures_with-figures.ensures.takes
    c.seed_with-seed.ensures c.in_ok-expected.ensures (λ same. true≢false (sym (c.are_same.ensures.1 (same ∙ sym c.deref.ensures.value)) ∙ no))
