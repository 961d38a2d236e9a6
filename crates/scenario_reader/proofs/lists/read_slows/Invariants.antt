use Rattle.std.proofs.Common.{◌≡◌, map, take}
use Rattle.toml.specs.View.{view}
use Rattle.scenario_reader.specs.Reading.{slow_in}
use Rattle.scenario_reader.proofs.lists.read_slows.Given as goal

abbrev pub invariant-loop-item : goal.invariant-loop-item
invariant-loop-item l = l.slows.items ≡ map (λ v. slow_in l.roster (view v)) (take l.item-index l.list)
