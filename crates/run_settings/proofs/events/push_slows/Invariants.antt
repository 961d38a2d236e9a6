use Rattle.std.proofs.Common.{◌≡◌, ◌++◌, take, flat_map}
use Rattle.std.specs.String.{string_bytes}
use Rattle.run_settings.specs.Events.{slow_entry}
use Rattle.run_settings.proofs.events.push_slows.Given as goal

-- those so far
abbrev pub invariant-loop-slow : goal.invariant-loop-slow
invariant-loop-slow l = string_bytes l.text ≡ string_bytes l.initial.text ++ flat_map (slow_entry l.name l.member) (take l.slow-index l.slows)
