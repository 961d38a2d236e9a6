use Rattle.std.proofs.Common.{◌≡◌, ◌++◌, take, flat_map}
use Rattle.std.specs.String.{string_bytes}
use Rattle.meaning_text.specs.Lines.{crash_line}
use Rattle.meaning_text.proofs.script.push_crashes_among.Given as goal

abbrev pub invariant-loop-event : goal.invariant-loop-event
invariant-loop-event l = string_bytes l.text ≡ string_bytes l.initial.text ++ flat_map (crash_line l.scenario) (take l.event-index l.events)
