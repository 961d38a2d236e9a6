use Rattle.command_line.proofs.running.with_outputs.Goals as goal

pub returns : goal.returns
returns c app is = c.with_tick.ensures _ (c.with_written-written.ensures _ is)
