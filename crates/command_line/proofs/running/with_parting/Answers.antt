use Rattle.command_line.proofs.running.with_parting.Goals as goal

pub returns : goal.returns
returns c app is = c.and_option.ensures _ (c.and_option-parted.ensures _ (c.and_option-worked.ensures _ is))
