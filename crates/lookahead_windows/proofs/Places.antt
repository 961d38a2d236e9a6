-- What holds of each item of a list at its place.
use Rattle.std.proofs.Common.{◌≡◌, ℕ, zero, suc, List, [], ◌∷◌, ◌++◌, length, Some, subst}
use Rattle.std.specs.List.{slice_get}
use Rattle.std.proofs.lemmas.Option.{none-some, same_Some}

-- in a list that has one more at its end
pub pushed_each : {X : Type 0} (P : ℕ → X → Type 0) (xs : List X) (y : X) → ((j : ℕ) (x : X) → slice_get xs j ≡ Some x → P j x) → P (length xs) y
    → (j : ℕ) (x : X) → slice_get (xs ++ y ∷ []) j ≡ Some x → P j x
pushed_each P [] y each here zero x is = subst (P 0) (same_Some y x is) here
pushed_each P [] y each here (suc j) x is = absurd (none-some x is)
pushed_each P (z ∷ xs) y each here zero x is = each 0 x is
pushed_each P (z ∷ xs) y each here (suc j) x is = pushed_each (λ k. P (suc k)) xs y (λ k w at. each (suc k) w at) here j x is
