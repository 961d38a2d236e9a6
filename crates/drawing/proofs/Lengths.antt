-- The decimal places of what is left of a unit, one after the other.
use Rattle.std.proofs.Common.{◌≡◌, ℕ, suc, ◌+◌, ◌-◌, ◌*◌, ◌^◌, ◌<◌, ◌≤◌, ◌++◌, List, sym, ap, ◌∙◌, arith, append_assoc, append-nil}
use Rattle.std.specs.Prelude.{◌%◌}
use Rattle.std.proofs.lemmas.Nat.{mul-lt}
use Rattle.drawing.specs.Lengths.{digit, places_within}

-- with one place more
pub places_more : (place part unit : ℕ) (was now all : List ℕ) → place < 6 → was ++ places_within (6 - place) part unit ≡ all → now ≡ was ++ digit part unit
    → now ++ places_within (6 - (place + 1)) (part * 10 % unit) unit ≡ all
places_more place part unit was now all low is goes =
    let rest = places_within (6 - (place + 1)) (part * 10 % unit) unit in
    let next : suc (6 - (place + 1)) ≡ 6 - place = omega (arith, low) in
    ap (λ t. t ++ rest) goes ∙ append_assoc was (digit part unit) rest ∙ ap (λ n. was ++ places_within n part unit) next ∙ is

-- behind the last of them
pub places_end : (place part unit : ℕ) (now all : List ℕ) → 6 ≤ place → now ++ places_within (6 - place) part unit ≡ all → now ≡ all
places_end place part unit now all past is =
    let none : 0 ≡ 6 - place = omega (arith, past) in
    sym (append-nil now) ∙ ap (λ n. now ++ places_within n part unit) none ∙ is

-- what two numbers of 64 bits make has 128 bits
pub product : (a b : ℕ) → a < 2 ^ 64 → b < 2 ^ 64 → a * b < 2 ^ 128
product a b low also = omega (arith, mul-lt a b (2 ^ 64) (2 ^ 64) low also)
