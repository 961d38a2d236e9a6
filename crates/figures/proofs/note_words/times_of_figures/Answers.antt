use Rattle.figures.proofs.NoNotes.{no_times}
use Rattle.std.proofs.Common.{arith}
use Rattle.figures.proofs.note_words.times_of_figures.Goals as goal

pub returns-then-figures-ne0-clause-refused : goal.returns-then-figures-ne0-clause-refused
returns-then-figures-ne0-clause-refused c = no_times c.args.figures.now (λ e. omega arith)
