-- A length that is made that of a way by another part.
use Rattle.std.proofs.Common.{◌≡◌, ◌≢◌, ℕ, ◌+◌, ◌^◌, ◌<◌, ◌≤◌, inl, inr, true, List, Option, Some, None, refl, sym, ap, ◌∙◌, subst, arith}
use Rattle.std.proofs.lemmas.Bool.{cases_eq, false≢true, ltb-true}
use Rattle.scenario.specs.Setup.{Setup}
use Rattle.windows.specs.Cluster.{IsPeopled}
use Rattle.lookahead.specs.Least.{IsLeastOf, IsAtMost, sum_of, is_less}
use Rattle.lookahead.specs.Lengths.{length_at}
use Rattle.lookahead.specs.Walks.{IsLengthOfAWalk, AreLengthsOfWalks}
use Rattle.lookahead.proofs.LeastOf.{parts_of_sum, some_same}
use Rattle.lookahead.proofs.Writing.{IsWritten, at_each}
use Rattle.lookahead.proofs.Joining.{ends_peopled, joined_lengths}

up_to : (o : Option ℕ) (n m : ℕ) → o ≡ Some n → IsAtMost o m → n ≤ m
up_to o n m is most = subst (λ x. IsAtMost x m) is most

-- no more than what stood, where it is less
less_than : (old : Option ℕ) (n m : ℕ) → is_less (Some n) old ≡ true → IsAtMost old m → IsAtMost (Some n) m
less_than None n m less most = absurd most
less_than (Some d) n m less most = let below : n < d = ltb-true n d less in omega (arith, most)

-- the least way has 64 bits
pub way_fits : (parts : ℕ) (lengths : List (Option ℕ)) (from to : ℕ) (way : Option ℕ) → IsLeastOf (λ way. sum_of (length_at lengths from way) (length_at lengths way to)) parts way → (n : ℕ) → way ≡ Some n → n < 2 ^ 64
way_fits parts lengths from to None least n is = absurd (let no : None ≡ Some n = is in cc)
way_fits parts lengths from to (Some d) least n is =
    let of = parts_of_sum (length_at lengths from least.0.0) (length_at lengths least.0.0 to) d least.0.2 in
    let same = some_same d n is in
    omega (arith, of.sum)

module _ (parts : ℕ) (s : Setup) (division : ℕ → ℕ) (between : ℕ → ℕ → ℕ) (old : List (Option ℕ)) (are : AreLengthsOfWalks parts s division between old) where
  -- lengths between different parts are small, and so are all
  apart_small : (p q n : ℕ) → p < 64 → q < 64 → p ≢ q → length_at old p q ≡ Some n → n ≤ 2 ^ 20
  apart_small p q n here there apart is =
      let walk = (are.walked p q n here there is).0 in
      let ends = ends_peopled (IsPeopled s division) p q walk in
      let most = up_to (length_at old p q) n (between p q) is (are.direct p q apart walk.begins ends) in
      let near = are.near p q apart walk.begins ends in
      omega arith

  small : (p q n : ℕ) → p < 64 → q < 64 → length_at old p q ≡ Some n → n ≤ 2 ^ 21
  small p q n here there is = elim (cases_eq p q) as (λ _. n ≤ 2 ^ 21) [
    | inl same ↦ are.back p n here (ap (λ x. length_at old p x) same ∙ is)
    | inr apart ↦ (let few = apart_small p q n here there apart is in omega arith)
  ]

  module _ (from to way n : ℕ) (here : from < 64) (there : to < 64) (by : way < parts) (is : sum_of (length_at old from way) (length_at old way to) ≡ Some n) where
    low_way : way < 64
    low_way = omega (arith, by, are.at_most_64)

    -- the way's length is that of a walk
    way_walked : IsLengthOfAWalk (IsPeopled s division) between from to n
    way_walked =
        let of = parts_of_sum (length_at old from way) (length_at old way to) n is in
        let one = small from way of.one here low_way of.first in
        let other = small way to of.other low_way there of.second in
        let sum : of.one + of.other ≡ n = omega (arith, of.sum) in
        subst (IsLengthOfAWalk (IsPeopled s division) between from to) sum
        (joined_lengths between (IsPeopled s division) from way to of.one of.other (are.walked from way of.one here low_way of.first) (are.walked way to of.other low_way there of.second))

    -- a way back to the same part that is less than what stood goes by another part
    way_back : from ≡ to → is_less (Some n) (length_at old from to) ≡ true → n ≤ 2 ^ 21
    way_back same less =
        let of = parts_of_sum (length_at old from way) (length_at old way to) n is in
        elim (cases_eq from way) as (λ _. n ≤ 2 ^ 21) [
          | inl stays ↦ (
              let is_way : length_at old from to ≡ Some of.other = ap (λ x. length_at old x to) stays ∙ of.second in
              let below : n < of.other = ltb-true n of.other (sym (ap (is_less (Some n)) is_way) ∙ less) in
              let few = small way to of.other low_way there of.second in
              omega arith)
          | inr leaves ↦ (
              let one = apart_small from way of.one here low_way leaves of.first in
              let other = apart_small way to of.other low_way there (λ e. leaves (same ∙ sym e)) of.second in
              omega (arith, of.sum))
        ]

  module _ (new : List (Option ℕ)) (from to : ℕ) (here : from < 64) (there : to < 64) where
    by_way : (n way : ℕ) → IsWritten from to (Some n) old new → way < parts → sum_of (length_at old from way) (length_at old way to) ≡ Some n → is_less (Some n) (length_at old from to) ≡ true → AreLengthsOfWalks parts s division between new
    by_way n way written by is less = record {
      at_most_64 = are.at_most_64;
      few = are.few;
      near = are.near;
      walked = λ p q m low below has.
          at_each from to (Some n) old new written (λ p q o. (m : ℕ) → p < 64 → o ≡ Some m → IsLengthOfAWalk (IsPeopled s division) between p q m)
          (λ m low has. subst (IsLengthOfAWalk (IsPeopled s division) between from to) (sym (some_same n m has)) (way_walked from to way n here there by is))
          (λ p q below m low has. are.walked p q m low below has) p q below m low has;
      direct = λ p q apart begins ends.
          at_each from to (Some n) old new written (λ p q o. p ≢ q → IsPeopled s division p → IsPeopled s division q → IsAtMost o (between p q))
          (λ apart begins ends. less_than (length_at old from to) n (between from to) less (are.direct from to apart begins ends))
          (λ p q below apart begins ends. are.direct p q apart begins ends) p q (omega (arith, are.few q ends, are.at_most_64)) apart begins ends;
      back = λ p m low has.
          at_each from to (Some n) old new written (λ p q o. p ≡ q → (m : ℕ) → p < 64 → o ≡ Some m → m ≤ 2 ^ 21)
          (λ same m low has. let few = way_back from to way n here there by is same less in let e = some_same n m has in omega arith)
          (λ p q below same m low has. small p q m low below has) p p low refl m low has;
    }

    pub shortened : (way : Option ℕ) → IsLeastOf (λ way. sum_of (length_at old from way) (length_at old way to)) parts way → is_less way (length_at old from to) ≡ true → IsWritten from to way old new
        → AreLengthsOfWalks parts s division between new
    shortened None least less written = absurd (false≢true less)
    shortened (Some n) least less written = by_way n least.0.0 written least.0.1 least.0.2 less
