use Rattle.std.proofs.Common.{◌≡◌, map, take, flat_map}
use Rattle.serde_json.specs.View.{view}
use Rattle.meaning_json.specs.Script.{pause_item}
use Rattle.meaning_json.proofs.script.pauses_value.Given as goal

abbrev pub invariant-loop-pause : goal.invariant-loop-pause
invariant-loop-pause l = map view l.values.items ≡ flat_map (pause_item l.scenario) (take l.pause-index l.pauses)
