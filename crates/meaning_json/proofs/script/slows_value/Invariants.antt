use Rattle.std.proofs.Common.{◌≡◌, map, take, flat_map}
use Rattle.serde_json.specs.View.{view}
use Rattle.meaning_json.specs.Script.{slow_item}
use Rattle.meaning_json.proofs.script.slows_value.Given as goal

abbrev pub invariant-loop-slow : goal.invariant-loop-slow
invariant-loop-slow l = map view l.values.items ≡ flat_map (slow_item l.scenario) (take l.slow-index l.slows)
