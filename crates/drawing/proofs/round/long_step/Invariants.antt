use Rattle.std.proofs.Common.{◌≡◌, drop}
use Rattle.std.specs.List.{find}
use Rattle.drawing.specs.Rounds.{is_long_enough, long_steps}
use Rattle.drawing.proofs.round.long_step.Given as goal

-- the step stands among those that are left
abbrev pub invariant-loop-step : goal.invariant-loop-step
invariant-loop-step l = find (is_long_enough l.length l.ticks) (drop l.step-index l.step-items) ≡ find (is_long_enough l.length l.ticks) long_steps
