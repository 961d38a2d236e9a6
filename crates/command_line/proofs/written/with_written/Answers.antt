use Rattle.command_line.proofs.written.with_written.Goals as goal

pub returns : goal.returns
returns c app is = c.and_option.ensures _ (c.and_option-reported.ensures _ (c.and_required-traced.ensures _ is))
