use Rattle.command_line.proofs.expanding.expand_command.Goals as goal

pub returns : goal.returns
returns c = c.with_file.ensures _ c.new_command.ensures
