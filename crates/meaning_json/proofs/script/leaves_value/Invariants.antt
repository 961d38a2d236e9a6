use Rattle.std.proofs.Common.{◌≡◌, map, take, flat_map}
use Rattle.serde_json.specs.View.{view}
use Rattle.meaning_json.specs.Script.{leave_item}
use Rattle.meaning_json.proofs.script.leaves_value.Given as goal

abbrev pub invariant-loop-leave : goal.invariant-loop-leave
invariant-loop-leave l = map view l.values.items ≡ flat_map (leave_item l.scenario) (take l.leave-index l.leaves)
