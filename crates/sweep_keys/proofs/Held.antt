-- Products and sums that stop where 64 bits do.
use Rattle.std.proofs.Common.{◌≡◌, ℕ, ◌+◌, ◌*◌, min, ◌∙◌, ap, arith}
use Rattle.std.proofs.Math.Nat.{mul_comm}
use Rattle.sweep_plan.proofs.Counts.{saturated}
use Rattle.sweep_keys.specs.Lines.{held}

-- a product stops where its second factor does
held_second : (a b most : ℕ) → min (a * min b most) most ≡ min (a * b) most
held_second a b most = ap (λ n. min n most) (mul_comm a (min b most)) ∙ saturated b a most ∙ ap (λ n. min n most) (mul_comm b a)

-- a sum of three stops where its parts do
three_held : (most x y z first second both all : ℕ) → first ≡ min x most → second ≡ min y most → both ≡ min (first + second) most → all ≡ min (both + z) most → all ≡ min (x + y + z) most
three_held most x y z first second both all p q r s = omega (arith, p, q, r, s)

-- rounds that begin before a place, the values before it in its round, and what is left
pub held_place : (rounds round values left within start before both all : ℕ) → within ≡ held round → start ≡ held (rounds * within) → before ≡ held values → both ≡ held (start + before) → all ≡ held (both + left)
    → all ≡ held (rounds * round + values + left)
held_place rounds round values left within start before both all p q r s t =
    three_held _ (rounds * round) values left start before both all (q ∙ ap (λ n. held (rounds * n)) p ∙ held_second rounds round _) r s t
