use Rattle.std.proofs.Common.{◌≡◌, map, flat_map}
use Rattle.std.specs.List.{range_with_len}
use Rattle.serde_json.specs.View.{view}
use Rattle.meaning_json.specs.Script.{crash_items}
use Rattle.meaning_json.proofs.script.crashes_value.Given as goal

abbrev pub invariant-loop-member : goal.invariant-loop-member
invariant-loop-member l = map view l.values.items ≡ flat_map (crash_items l.scenario) (range_with_len 0 l.member)
