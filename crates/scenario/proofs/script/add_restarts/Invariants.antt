use Rattle.std.proofs.Common.{◌≡◌, ◌++◌, map, take}
use Rattle.scenario.specs.Script.{restart_event}
use Rattle.scenario.proofs.script.add_restarts.Given as goal

abbrev pub invariant-loop-restart : goal.invariant-loop-restart
invariant-loop-restart l = l.events.items ≡ l.initial.events.items ++ map restart_event (take l.restart-index l.restarts)
