use Rattle.std.proofs.Common.{◌≡◌, map, take, string_bytes}
use Rattle.std.specs.List.{flat_map}
use Rattle.toml.specs.View.{view}
use Rattle.scenario.specs.Setup.{names_in}
use Rattle.scenario_reader.specs.Reading.{plain_group}
use Rattle.scenario_reader.proofs.lists.list_names.Given as goal

abbrev pub invariant-loop-group : goal.invariant-loop-group
invariant-loop-group l = map string_bytes l.names.items ≡ flat_map (λ g. names_in (plain_group (view g))) (take l.group-index l.list)
