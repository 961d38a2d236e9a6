use Rattle.std.proofs.Common.{◌≡◌, ◌++◌, take, flat_map}
use Rattle.std.specs.String.{string_bytes}
use Rattle.run_settings.specs.Events.{pause_entry}
use Rattle.run_settings.proofs.events.push_pauses.Given as goal

-- those so far
abbrev pub invariant-loop-pause : goal.invariant-loop-pause
invariant-loop-pause l = string_bytes l.text ≡ string_bytes l.initial.text ++ flat_map (pause_entry l.name l.member) (take l.pause-index l.pauses)
