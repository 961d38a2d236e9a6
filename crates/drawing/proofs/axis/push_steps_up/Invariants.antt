use Rattle.std.proofs.Common.{◌≡◌, ◌*◌, ◌++◌}
use Rattle.std.specs.List.{flat_map, range_with_len}
use Rattle.std.specs.String.{string_bytes}
use Rattle.drawing.specs.Axes.{length_up}
use Rattle.drawing.proofs.axis.push_steps_up.Given as goal

-- the ticks so far
abbrev pub invariant-loop-tick : goal.invariant-loop-tick
invariant-loop-tick l = string_bytes l.text ≡ string_bytes l.initial.text ++ flat_map (λ tick. length_up l.most (tick * l.step)) (range_with_len 0 l.tick)
