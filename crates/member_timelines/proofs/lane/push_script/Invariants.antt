use Rattle.std.proofs.Common.{◌≡◌, ◌++◌, take, flat_map}
use Rattle.std.specs.String.{string_bytes}
use Rattle.member_timelines.specs.Lanes.{event_rule}
use Rattle.member_timelines.proofs.lane.push_script.Given as goal

-- the rules of those so far
abbrev pub invariant-loop-event : goal.invariant-loop-event
invariant-loop-event l = string_bytes l.text ≡ string_bytes l.initial.text ++ flat_map (event_rule l.run.scenario.now) (take l.event-index l.script)
