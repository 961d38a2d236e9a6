use Rattle.figures.proofs.NoteParts.{all_times, later_times}
use Rattle.figures.proofs.note_words.times_in.Goals as goal

pub returns-then-figures-ne1 : goal.returns-then-figures-ne1
returns-then-figures-ne1 c = all_times c.args.figures.now c.if-figures-ne1.true

pub returns : goal.returns
returns c = later_times c.args.figures.now c.min.result c.if-figures-ne1.false c.min.ensures
