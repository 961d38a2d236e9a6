use Rattle.std.proofs.Common.{◌≡◌, map, flat_map}
use Rattle.std.specs.List.{range_with_len}
use Rattle.serde_json.specs.View.{view}
use Rattle.meaning_json.specs.Figures.{pace_item}
use Rattle.meaning_json.proofs.figures.health_value.Given as goal

abbrev pub invariant-loop-health : goal.invariant-loop-health
invariant-loop-health l = map view l.values.items ≡ flat_map (pace_item l.scenario) (range_with_len 0 l.health)
