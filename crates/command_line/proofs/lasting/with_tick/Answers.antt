use Rattle.command_line.proofs.lasting.with_tick.Goals as goal

pub returns : goal.returns
returns c app is = c.and_option.ensures _ is
