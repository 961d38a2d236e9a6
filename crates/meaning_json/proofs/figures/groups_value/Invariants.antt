use Rattle.std.proofs.Common.{◌≡◌, map, flat_map}
use Rattle.std.specs.List.{range_with_len}
use Rattle.serde_json.specs.View.{view}
use Rattle.meaning_json.specs.Figures.{group_item}
use Rattle.meaning_json.proofs.figures.groups_value.Given as goal

abbrev pub invariant-loop-member : goal.invariant-loop-member
invariant-loop-member l = map view l.values.items ≡ flat_map (group_item l.scenario) (range_with_len 0 l.member)
