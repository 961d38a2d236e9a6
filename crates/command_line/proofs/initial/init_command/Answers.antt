use Rattle.command_line.proofs.initial.init_command.Goals as goal

pub returns : goal.returns
returns c = c.with_preset.ensures _ c.new_command.ensures
