use Rattle.command_line.proofs.sweeping.with_settings.Goals as goal

pub returns : goal.returns
returns c app is = c.and_repeated.ensures _ (c.and_option-limited.ensures _ (c.and_option-seeded.ensures _ is))
