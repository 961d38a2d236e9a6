use Rattle.std.proofs.Common.{◌≡◌, ℕ, ◌/◌, max, fold, length, take}
use Rattle.sweep_plan.specs.Sweep.{KeyValues, choice_count}
use Rattle.sweep_keys.proofs.lines.shared_out.Given as goal

abbrev pub invariant-loop-swept : goal.invariant-loop-swept
invariant-loop-swept l = (l.left ≡ fold (λ (left : ℕ) (s : KeyValues). left / max (choice_count s) 1) l.settings (take l.swept-index l.swept_keys))
