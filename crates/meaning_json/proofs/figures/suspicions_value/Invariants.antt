use Rattle.std.proofs.Common.{◌≡◌, map, flat_map}
use Rattle.std.specs.List.{range_with_len}
use Rattle.serde_json.specs.View.{view}
use Rattle.meaning_json.specs.Figures.{suspicion_item}
use Rattle.meaning_json.proofs.figures.suspicions_value.Given as goal

abbrev pub invariant-loop-accusers : goal.invariant-loop-accusers
invariant-loop-accusers l = map view l.values.items ≡ flat_map (suspicion_item l.scenario) (range_with_len 0 l.accusers)
