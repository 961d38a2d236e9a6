use Rattle.std.proofs.Common.{arith, ◌≡◌, ◌+◌, ◌*◌, ℕ, ◌≤◌, ap, ◌∙◌}
use Rattle.lifeguard.specs.Health.{full_health}
use Rattle.lifeguard.proofs.HealthRuns.{counter-after_signs}
use Rattle.lifeguard.proofs.laws.no_ceiling_no_scaling.Goals as goal

none : (n : ℕ) → n ≤ 0 → n ≡ 0
none n small = omega (arith, small)

by_one : (base : ℕ) → base * 1 ≡ base
by_one base = omega arith

pub returns-clause-counter : goal.returns-clause-counter
returns-clause-counter c signs = none _ (counter-after_signs (full_health 0) signs (omega arith))

pub returns-clause-scaled : goal.returns-clause-scaled
returns-clause-scaled c signs base =
    ap (λ n. base * (n + 1)) (none _ (counter-after_signs (full_health 0) signs (omega arith))) ∙ by_one base
