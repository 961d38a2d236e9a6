use Rattle.std.proofs.Common.{List, ℕ, Bor, map}
use Rattle.sweep_plan.specs.Asked.{AreValuesAt}
use Rattle.sweep_plan.proofs.axes.read_values_at.Given as goal

abbrev pub invariant-loop-item : goal.invariant-loop-item
invariant-loop-item l = AreValuesAt l.of l.place (map (λ (item : Bor (List ℕ)). item.now) l.yielded) l.values.items
