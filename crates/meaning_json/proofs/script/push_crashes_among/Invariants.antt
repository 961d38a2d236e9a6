use Rattle.std.proofs.Common.{◌≡◌, ◌++◌, map, take, flat_map}
use Rattle.serde_json.specs.View.{view}
use Rattle.meaning_json.specs.Script.{crash_item}
use Rattle.meaning_json.proofs.script.push_crashes_among.Given as goal

abbrev pub invariant-loop-event : goal.invariant-loop-event
invariant-loop-event l = map view l.values.items ≡ map view l.initial.values.items ++ flat_map (crash_item l.scenario) (take l.event-index l.events)
