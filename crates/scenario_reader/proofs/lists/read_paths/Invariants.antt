use Rattle.std.proofs.Common.{◌≡◌, map, take}
use Rattle.toml.specs.View.{view}
use Rattle.scenario_reader.specs.Reading.{path_in}
use Rattle.scenario_reader.proofs.lists.read_paths.Given as goal

abbrev pub invariant-loop-item : goal.invariant-loop-item
invariant-loop-item l = l.paths.items ≡ map (λ v. path_in l.roster l.link (view v)) (take l.item-index l.list)
