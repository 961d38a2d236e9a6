use Rattle.std.proofs.Common.{◌≡◌, map, take}
use Rattle.toml.specs.View.{view}
use Rattle.scenario.specs.SetupOf.{group_of}
use Rattle.scenario_reader.specs.Reading.{group_in}
use Rattle.scenario_reader.proofs.lists.read_groups.Given as goal

abbrev pub invariant-loop-item : goal.invariant-loop-item
invariant-loop-item l = map group_of l.groups.items ≡ map (λ v. group_in l.roster (view v)) (take l.item-index l.list)
