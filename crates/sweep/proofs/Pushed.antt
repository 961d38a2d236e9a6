-- The items of a list that got one more.
use Rattle.std.proofs.Common.{◌≡◌, ℕ, zero, suc, List, [], ◌∷◌, ◌++◌, Some, refl, ap, length, ◌⊎◌, inl, inr, ⊎_elim}
use Rattle.std.proofs.lemmas.Option.{none-some, same_Some}
use Rattle.std.specs.Prelude.{slice_get}

-- an item of a list with one more at its end
pub pushed : {X : Type 0} (xs : List X) (x y : X) (place : ℕ) → slice_get (xs ++ x ∷ []) place ≡ Some y
    → (slice_get xs place ≡ Some y) ⊎ ((place ≡ length xs) × (x ≡ y))
pushed [] x y zero e = inr (refl, same_Some x y e)
pushed [] x y (suc n) e = absurd (none-some y e)
pushed (z ∷ xs) x y zero e = inl e
pushed (z ∷ xs) x y (suc n) e = ⊎_elim inl (λ p. inr (ap suc p.0, p.1)) (pushed xs x y n e)
