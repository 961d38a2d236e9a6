use Rattle.std.proofs.Common.{◌≡◌, ◌++◌, take, flat_map}
use Rattle.std.specs.String.{string_bytes}
use Rattle.member_timelines.specs.Told.{later_words}
use Rattle.member_timelines.proofs.told.push_script.Given as goal

-- the words of those so far
abbrev pub invariant-loop-event : goal.invariant-loop-event
invariant-loop-event l = string_bytes l.text ≡ string_bytes l.initial.text ++ flat_map (later_words l.time l.end l.departure) (take l.event-index l.script)
