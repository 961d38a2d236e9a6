-- How many of a list of counts pass a test.
use Rattle.std.proofs.Common.{◌≡◌, ℕ, ◌+◌, ◌<◌, Bool, cond, List, [], ◌∷◌, map, length, get_or, sum_by, refl, sym, ap, ◌∙◌, arith}
use Rattle.std.specs.Prelude.{count_by, slice_index}
use Rattle.std.specs.List.{range_with_len}
use Rattle.std.proofs.lemmas.List.{ext_get_or}
use Rattle.std.proofs.lemmas.List.Sums.{sum_by-cons}
use Rattle.std.proofs.lemmas.List.FromFn.{length-map-range_with_len, get_or-map-range_with_len}

sum_of_map : (g f : ℕ → ℕ) (ns : List ℕ) → sum_by g (map f ns) ≡ sum_by (λ n. g (f n)) ns
sum_of_map g f [] = refl
sum_of_map g f (n ∷ ns) = sum_by-cons g (f n) (map f ns) ∙ ap (λ k. g (f n) + k) (sum_of_map g f ns) ∙ sym (sum_by-cons (λ m. g (f m)) n ns)

-- counts at the places of numbers are those of the numbers
pub count_same : (p : ℕ → Bool) (c : ℕ → ℕ) (n : ℕ) (xs : List ℕ) → length xs ≡ n → ((i : ℕ) → i < n → slice_index xs i ≡ c i) → count_by p xs ≡ count_by (λ m. p (c m)) (range_with_len 0 n)
count_same p c n xs all each = ap (count_by p) are ∙ sum_of_map (λ x. cond (p x) 1 0) c (range_with_len 0 n)
  where
    are : xs ≡ map c (range_with_len 0 n)
    are =
        ext_get_or 0 xs (map c (range_with_len 0 n)) (all ∙ sym (length-map-range_with_len c 0 n))
        (λ i low. each i (omega (arith, low, all)) ∙ sym (get_or-map-range_with_len c 0 n i i 0 (omega (arith, low, all)) (omega arith)))
