-- Numbers in turn below a limit.
use Rattle.std.proofs.Common.{◌≡◌, ◌%◌, ◌<◌, ◌≤◌, ℕ, false, List, [], ◌∷◌, map, nat_le, refl, arith}
use Rattle.std.specs.List.{range_with_len}
use Rattle.std.proofs.lemmas.Bool.Decides.{nat_tests}
use Rattle.scenario.specs.Division.{has_part_past}

remainders : (limit : ℕ) (xs : List ℕ) → 1 ≤ limit → has_part_past limit (map (λ n. n % limit) xs) ≡ false
remainders limit [] some = refl
remainders limit (x ∷ xs) some =
    let lt : x % limit < limit = omega arith in
    let test : nat_le limit (x % limit) ≡ false = grind (arith, nat_tests) in
    rw test (remainders limit xs some)

-- none of them is past it
pub none_past : (count limit : ℕ) (xs : List ℕ) → 1 ≤ limit → xs ≡ map (λ n. n % limit) (range_with_len 0 count) → has_part_past limit xs ≡ false
none_past count limit xs some is = rw is (remainders limit (range_with_len 0 count) some)
