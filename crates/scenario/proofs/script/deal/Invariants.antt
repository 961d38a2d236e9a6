use Rattle.std.proofs.Common.{◌≡◌, ℕ, take}
use Rattle.std.specs.List.{filter}
use Rattle.scenario.specs.Script.{is_of}
use Rattle.scenario.specs.Scripts.{script_at}
use Rattle.scenario.proofs.script.deal.Given as goal

abbrev pub invariant-loop-event : goal.invariant-loop-event
invariant-loop-event l = (m : ℕ) → script_at l.scripts.items m ≡ filter (is_of m) (take l.event-index l.events)
