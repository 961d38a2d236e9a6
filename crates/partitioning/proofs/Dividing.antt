-- Lists of the members' parts that are divisions.
use Rattle.std.proofs.Common.{◌≡◌, ◌%◌, ◌<◌, ◌≤◌, ℕ, true, false, List, Ok, All, length, nat_le, nat_eq, refl, arith}
use Rattle.std.specs.List.{range_with_len}
use Rattle.std.proofs.lemmas.Bool.Decides.{nat_tests}
use Rattle.std.proofs.lemmas.List.Elements.{All-weaker, All-map}
use Rattle.std.proofs.lemmas.List.FromFn.{length-map-range_with_len}
use Rattle.std.proofs.lemmas.List.Folds.{list_any_none}
use Rattle.scenario.specs.Setup.{Setup, member_count}
use Rattle.scenario.specs.Division.{Deal, divided, in_turn, has_part_past}
use Rattle.partitioning.specs.Parts.{Divides}

-- where each is below the number of parts none is past it
none_past : (parts : ℕ) (xs : List ℕ) → All (λ part. part < parts) xs → has_part_past parts xs ≡ false
none_past parts xs below =
    list_any_none (λ part. nat_le parts part) xs
    (All-weaker (λ part. part < parts) (λ part. nat_le parts part ≡ false) (λ part low. grind (arith, nat_tests)) xs below)

-- such a list is a division of as many members
pub divides : (members parts : ℕ) (xs : List ℕ) → 1 ≤ parts → parts ≤ 64 → length xs ≡ members → All (λ part. part < parts) xs
    → divided members parts xs ≡ Ok (record { parts = parts; part_of = xs })
divides members parts xs some few each below =
    let low : nat_le 1 parts ≡ true = grind (arith, nat_tests) in
    let high : nat_le parts 64 ≡ true = grind (arith, nat_tests) in
    let same : nat_eq (length xs) members ≡ true = grind (arith, nat_tests) in
    rw (low, high, same, none_past parts xs below) refl

-- members in turn are divided
pub turns_divide : (s : Setup) (deal : Deal) (parts : ℕ) → deal ≡ in_turn (member_count s) parts → 1 ≤ parts → Divides s parts deal
turns_divide s deal parts is some = rw is (record {
  one_each = length-map-range_with_len (λ m. m % parts) 0 (member_count s);
  below = All-map (λ m. m < parts) (λ m. m % parts) (range_with_len 0 (member_count s)) (λ k d h. omega arith);
  few = omega arith;
})
