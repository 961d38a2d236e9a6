use Rattle.command_line.proofs.explaining.explain_command.Goals as goal

pub returns : goal.returns
returns c = c.and_flag.ensures _ (c.with_file-filed.ensures _ c.new_command.ensures)
