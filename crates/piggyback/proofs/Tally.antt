-- How many of a list pass a test, by cases on the list.
use Rattle.std.proofs.Common.{◌≡◌, ℕ, ◌+◌, Bool, true, false, cond, List, ◌∷◌, refl}
use Rattle.std.specs.List.{count_by}
use Rattle.std.proofs.lemmas.List.Sums.{sum_by-cons}

pub one_of : (b : Bool) → b ≡ true → cond {A = ℕ} b 1 0 ≡ 1
one_of b h = rw h refl

pub none_of : (b : Bool) → b ≡ false → cond {A = ℕ} b 1 0 ≡ 0
none_of b h = rw h refl

pub count_by-cons : {X : Type 0} (p : X → Bool) (x : X) (xs : List X) → count_by p (x ∷ xs) ≡ cond (p x) 1 0 + count_by p xs
count_by-cons p x xs = sum_by-cons (λ it. cond (p it) 1 0) x xs
