use Rattle.sweep_keys.specs.Keys.{lines_opening}
use Rattle.sweep_keys.proofs.charts.open_lines.Goals as goal

pub returns : goal.returns
unfolding lines_opening
returns c = rw (c.words-words.ensures, c.width-width.ensures, c.lines_words-description.ensures) at c.open_plot.ensures
