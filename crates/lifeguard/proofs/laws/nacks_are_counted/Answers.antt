use Rattle.std.proofs.Common.{◌≡◌, ℕ, zero, suc, min, arith}
use Rattle.lifeguard.specs.Probe.{fresh_probe, with_nacks}
use Rattle.lifeguard.proofs.laws.nacks_are_counted.Goals as goal

counted : (seq target n : ℕ) → (with_nacks (fresh_probe seq target) n).nacks ≡ min n 16
counted seq target zero = omega arith
counted seq target (suc n) = let before = counted seq target n in grind (arith, before)

pub returns : goal.returns
returns c = counted
