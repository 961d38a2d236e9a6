use Rattle.std.proofs.Common.{◌≡◌, ◌≤◌, take}
use Rattle.std.specs.List.{sum_by}
use Rattle.toml.specs.View.{view}
use Rattle.schema.specs.Schema.{most_members}
use Rattle.scenario_reader.specs.Reading.{plain_group}
use Rattle.scenario_reader.proofs.reader.are_too_many.Given as goal

abbrev pub invariant-loop-group : goal.invariant-loop-group
invariant-loop-group l = (l.members ≤ most_members l.fn.version) × (l.members ≡ sum_by (λ g. (plain_group (view g)).count) (take l.group-index l.list)) × (l.most ≡ most_members l.fn.version)
