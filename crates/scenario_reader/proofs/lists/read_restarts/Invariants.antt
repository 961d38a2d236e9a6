use Rattle.std.proofs.Common.{◌≡◌, map, take}
use Rattle.toml.specs.View.{view}
use Rattle.scenario_reader.specs.Reading.{restart_in}
use Rattle.scenario_reader.proofs.lists.read_restarts.Given as goal

abbrev pub invariant-loop-item : goal.invariant-loop-item
invariant-loop-item l = l.restarts.items ≡ map (λ v. restart_in l.roster (view v)) (take l.item-index l.list)
