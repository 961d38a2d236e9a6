use Rattle.command_line.proofs.telling.with_telling.Goals as goal

pub returns : goal.returns
returns c app is = c.with_tick.ensures _ (c.and_option-paged.ensures _ (c.and_flag-objects.ensures _ (c.and_repeated-wanted.ensures _ is)))
