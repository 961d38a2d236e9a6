use Rattle.std.proofs.Common.{◌≡◌, map, take}
use Rattle.toml.specs.View.{view}
use Rattle.scenario_reader.specs.Reading.{crash_in}
use Rattle.scenario_reader.proofs.lists.read_crashes.Given as goal

abbrev pub invariant-loop-item : goal.invariant-loop-item
invariant-loop-item l = l.crashes.items ≡ map (λ v. crash_in l.roster (view v)) (take l.item-index l.list)
