use Rattle.std.proofs.Common.{◌≡◌, false, take}
use Rattle.std.specs.List.{list_any}
use Rattle.toml.specs.View.{view}
use Rattle.scenario_reader.specs.Times.{is_early_restart_in}
use Rattle.scenario_reader.proofs.times.first_early_restart.Given as goal

abbrev pub invariant-loop-i : goal.invariant-loop-i
invariant-loop-i l = list_any (λ v. is_early_restart_in l.roster (view v)) (take l.i l.list) ≡ false
