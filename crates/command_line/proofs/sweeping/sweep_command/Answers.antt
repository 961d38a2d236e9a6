use Rattle.command_line.proofs.sweeping.sweep_command.Goals as goal

pub returns : goal.returns
returns c = c.and_flag.ensures _ (c.with_telling-told.ensures _ (c.with_runs-made.ensures _ (c.with_file-filed.ensures _ c.new_command.ensures)))
