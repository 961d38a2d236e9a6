use Rattle.std.proofs.Common.{◌≡◌, drop}
use Rattle.std.specs.List.{find, flat_map}
use Rattle.drawing.specs.Rounds.{is_long_enough, round_numbers, with_digits}
use Rattle.drawing.proofs.round.round_step.Given as goal

-- the step stands among those of the powers that are left
abbrev pub invariant-loop-power : goal.invariant-loop-power
invariant-loop-power l =
    find (is_long_enough l.most l.ticks) (flat_map with_digits (drop l.power-index l.power-items)) ≡ find (is_long_enough l.most l.ticks) round_numbers
