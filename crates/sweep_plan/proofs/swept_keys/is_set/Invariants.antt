use Rattle.std.proofs.Common.{◌≡◌, false, take}
use Rattle.std.specs.List.{list_any}
use Rattle.sweep_plan.specs.Keys.{sets_again}
use Rattle.sweep_plan.proofs.swept_keys.is_set.Given as goal

abbrev pub invariant-loop-swept : goal.invariant-loop-swept
invariant-loop-swept l = list_any (λ s. sets_again l.key s.key) (take l.swept-index l.swept_keys) ≡ false
