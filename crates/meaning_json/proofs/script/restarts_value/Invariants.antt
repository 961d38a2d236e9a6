use Rattle.std.proofs.Common.{◌≡◌, map, take, flat_map}
use Rattle.serde_json.specs.View.{view}
use Rattle.meaning_json.specs.Script.{restart_item}
use Rattle.meaning_json.proofs.script.restarts_value.Given as goal

abbrev pub invariant-loop-restart : goal.invariant-loop-restart
invariant-loop-restart l = map view l.values.items ≡ flat_map (restart_item l.scenario) (take l.restart-index l.restarts)
