use Rattle.std.proofs.Common.{◌↔◌, ℕ, ◌≤◌, take}
use Rattle.std.specs.List.{AllByRecursion}
use Rattle.member.specs.declared.event.Event.{Event}
use Rattle.lookahead_windows.specs.Starts.{IsUpTo}
use Rattle.lookahead_windows.proofs.firsts.least_of.Given as goal

abbrev pub invariant-loop-event : goal.invariant-loop-event
invariant-loop-event l = record { least : (t : ℕ) → AllByRecursion (λ (e : Event). t ≤ e.key.at) (take l.event-index l.events) ↔ IsUpTo l.least t }
