use Rattle.sweep_page.specs.Front.{axis_of}
use Rattle.sweep_page.proofs.front.push_axis.Goals as goal

pub returns : goal.returns
unfolding axis_of
returns c = rw (c.unit_words.ensures, c.time_where.ensures) at c.push_time_across.ensures
