use Rattle.command_line.proofs.joining.join_command.Goals as goal

pub returns : goal.returns
returns c = c.and_option.ensures _ (c.with_telling-told.ensures _ (c.and_required-tabled.ensures _ (c.with_shards-filed.ensures _ c.new_command.ensures)))
