use Rattle.std.proofs.Common.{refl, rules}
use Rattle.figures.proofs.NoNotes.{no_figure}
use Rattle.figures.proofs.note_words.read_figure.Goals as goal

pub returns-in-None-clause-none : goal.returns-in-None-clause-none
returns-in-None-clause-none c _ = no_figure c.args.word.now (search rules) (c.in-None.ensures.none refl)
