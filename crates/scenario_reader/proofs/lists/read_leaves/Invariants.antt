use Rattle.std.proofs.Common.{◌≡◌, map, take}
use Rattle.toml.specs.View.{view}
use Rattle.scenario_reader.specs.Reading.{leave_in}
use Rattle.scenario_reader.proofs.lists.read_leaves.Given as goal

abbrev pub invariant-loop-item : goal.invariant-loop-item
invariant-loop-item l = l.leaves.items ≡ map (λ v. leave_in l.roster (view v)) (take l.item-index l.list)
