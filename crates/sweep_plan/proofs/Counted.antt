-- Items of a name, counted.
use Rattle.std.proofs.Common.{◌≤◌, ℕ, Bool, List, filter, length, map, take, arith}
use Rattle.std.proofs.lemmas.List.{length-map, length-take}
use Rattle.std.proofs.lemmas.List.Sums.{length-filter, count_by-le-length}

pub counted_low : {A B : Type 0} (p : B → Bool) (f : A → B) (xs : List A) (i : ℕ) → length (filter p (map f (take i xs))) ≤ i
counted_low p f xs i =
    let count = length-filter p (map f (take i xs)) in
    let low = count_by-le-length p (map f (take i xs)) in
    let long = length-map (take i xs) f in
    let short = length-take i xs in
    omega (arith, count, low, long, short)
