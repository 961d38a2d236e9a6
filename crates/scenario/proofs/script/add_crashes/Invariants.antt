use Rattle.std.proofs.Common.{◌≡◌, ◌++◌, map, take}
use Rattle.scenario.specs.Script.{crash_event}
use Rattle.scenario.proofs.script.add_crashes.Given as goal

abbrev pub invariant-loop-crash : goal.invariant-loop-crash
invariant-loop-crash l = l.events.items ≡ l.initial.events.items ++ map crash_event (take l.crash-index l.crashes)
