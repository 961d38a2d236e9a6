use Rattle.command_line.proofs.sweeping.with_runs.Goals as goal

pub returns : goal.returns
returns c app is = c.and_option.ensures _ (c.and_flag-resumed.ensures _ (c.and_option-sharded.ensures _ (c.with_settings-set.ensures _ (c.and_required-tabled.ensures _ is))))
