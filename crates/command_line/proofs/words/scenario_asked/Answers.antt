use Rattle.std.proofs.Common.{refl}
use Rattle.command_line.proofs.words.scenario_asked.Goals as goal

pub returns-in-None-expand_asked-clause-none : goal.returns-in-None-expand_asked-clause-none
returns-in-None-expand_asked-clause-none c _ = record {
  no_run = c.in-None.ensures.none refl;
  no_check = c.in-None-check_asked.ensures.none refl;
  no_explain = c.in-None-explain_asked.ensures.none refl;
  no_drive = c.in-None-drive_asked.ensures.none refl;
  no_expand = c.in-None-expand_asked.ensures.none refl;
}
