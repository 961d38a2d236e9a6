-- What holds of each item of a list at its place.
use Rattle.std.proofs.Common.{◌≡◌, ◌≢◌, ◌≤◌, ℕ, zero, suc, List, [], ◌∷◌, ◌++◌, length, map, take, drop, slice_set, Some, refl, sym, subst, arith}
use Rattle.std.specs.List.{AllByRecursion, slice_get}
use Rattle.std.proofs.lemmas.Option.{none-some, same_Some}
use Rattle.std.proofs.lemmas.List.{length-append, length-drop, length-take}
use Rattle.base.proofs.Rising.{all_append, all_front, all_back}

-- a list of which the first items are written anew is as long as before
pub as_many : {X : Type 0} (n : ℕ) (new old : List X) → n ≡ length old → length new ≤ length old → length (take n (new ++ drop (length new) old)) ≡ length old
as_many n new old all few = omega (arith, all, few, length-take n (new ++ drop (length new) old), length-append new (drop (length new) old), length-drop (length new) old)

-- in a list in which one place is written
pub written_each : {X : Type 0} (P : ℕ → X → Type 0) (xs : List X) (i : ℕ) (y : X) → P i y → ((j : ℕ) (x : X) → j ≢ i → slice_get xs j ≡ Some x → P j x)
    → (j : ℕ) (x : X) → slice_get (slice_set xs i y) j ≡ Some x → P j x
written_each P [] i y here others j x is = absurd (none-some x is)
written_each P (z ∷ xs) zero y here others zero x is = subst (P 0) (same_Some y x is) here
written_each P (z ∷ xs) zero y here others (suc j) x is = others (suc j) x (λ same. omega arith) is
written_each P (z ∷ xs) (suc i) y here others zero x is = others 0 x (λ same. omega arith) is
written_each P (z ∷ xs) (suc i) y here others (suc j) x is =
    written_each (λ k. P (suc k)) xs i y here (λ k w apart at. others (suc k) w (λ same. apart (omega arith)) at) j x is

-- what holds of each item holds with one more of which it holds
pub all_with_one : {X : Type 0} (P : X → Type 0) (xs more : List X) (x : X) → more ≡ xs ++ x ∷ [] → AllByRecursion P xs → P x → AllByRecursion P more
all_with_one P xs more x joined all is = subst (AllByRecursion P) (sym joined) (all_append P xs (x ∷ []) all (is, tt))

-- and of all but the last, and of the last
pub all_but_last : {X : Type 0} (P : X → Type 0) (xs rest : List X) (x : X) → xs ≡ rest ++ x ∷ [] → AllByRecursion P xs → AllByRecursion P rest × P x
all_but_last P xs rest x joined all =
    let parted = subst (AllByRecursion P) joined all in
    (all_front P rest (x ∷ []) parted, (all_back P rest (x ∷ []) parted).0)

-- where something is read of a list's items, it is so of an item at that place
pub slice_get_behind : {X Y : Type 0} (f : X → Y) (xs : List X) (i : ℕ) (y : Y) → slice_get (map f xs) i ≡ Some y → (x : X) × (slice_get xs i ≡ Some x) × (f x ≡ y)
slice_get_behind f [] i y is = absurd (none-some y is)
slice_get_behind f (x ∷ xs) zero y is = (x, refl, same_Some (f x) y is)
slice_get_behind f (x ∷ xs) (suc i) y is = slice_get_behind f xs i y is
