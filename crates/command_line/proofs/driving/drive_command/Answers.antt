use Rattle.command_line.proofs.driving.drive_command.Goals as goal

pub returns : goal.returns
returns c = c.with_written.ensures _ (c.with_file-filed.ensures _ c.new_command.ensures)
