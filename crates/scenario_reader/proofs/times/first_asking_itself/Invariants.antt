use Rattle.std.proofs.Common.{◌≡◌, false, take}
use Rattle.std.specs.List.{list_any}
use Rattle.toml.specs.View.{view}
use Rattle.scenario_reader.specs.Times.{asks_itself_in}
use Rattle.scenario_reader.proofs.times.first_asking_itself.Given as goal

abbrev pub invariant-loop-i : goal.invariant-loop-i
invariant-loop-i l = list_any (λ v. asks_itself_in l.roster (view v)) (take l.i l.list) ≡ false
