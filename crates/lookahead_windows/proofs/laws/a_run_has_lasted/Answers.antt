use Rattle.lookahead_windows.proofs.Lasting.{world_of_end}
use Rattle.lookahead_windows.proofs.laws.a_run_has_lasted.Goals as goal

pub returns : goal.returns
returns c = record { world = world_of_end }
