use Rattle.command_line.proofs.running.run_command.Goals as goal

pub returns : goal.returns
returns c = c.and_flag.ensures _ (c.with_parting-parted.ensures _ (c.with_outputs-written.ensures _ (c.with_file-filed.ensures _ c.new_command.ensures)))
