use Rattle.std.proofs.Common.{◌≡◌, List, ℕ, Bor, All, map}
use Rattle.sweep_plan.specs.Keys.{key_name, MaySet}
use Rattle.sweep_plan.proofs.axes.read_keys.Given as goal

abbrev pub invariant-loop-name : goal.invariant-loop-name
invariant-loop-name l =
    record { written : map key_name l.keys.items ≡ map (λ (name : Bor (List ℕ)). name.now) l.yielded; known : All MaySet l.keys.items }
