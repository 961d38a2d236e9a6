use Rattle.std.proofs.Common.{◌≡◌, ◌++◌, take, flat_map}
use Rattle.std.specs.String.{string_bytes}
use Rattle.run_settings.specs.Events.{script_words}
use Rattle.run_settings.proofs.events.push_script.Given as goal

-- those so far
abbrev pub invariant-loop-event : goal.invariant-loop-event
invariant-loop-event l = string_bytes l.text ≡ string_bytes l.initial.text ++ flat_map (script_words l.scenario l.name) (take l.event-index l.script)
