-- Parts one after the other, each to the place with the fewest members.
use Rattle.std.proofs.Common.{◌≡◌, ◌≢◌, ◌==◌, ℕ, ◌+◌, ◌<◌, ◌≤◌, List, [], ◌∷◌, ◌++◌, length, get_or, count_by, false, cond, inl, inr, refl, sym, ap, ◌∙◌, arith}
use Rattle.std.proofs.Math.ListN.{set}
use Rattle.std.proofs.lemmas.Bool.{cases_lt, cases_eq}
use Rattle.std.proofs.lemmas.Bool.Decides.{nat_tests}
use Rattle.std.proofs.lemmas.Grind.{get_or-set_at}
use Rattle.std.proofs.lemmas.List.{get_or_append_left, get_or_push, get_or_past, get_or-set_other, length_push}
use Rattle.std.proofs.lemmas.List.Sums.{sum_by-cons}
use Rattle.scenario.specs.Division.{Deal}
use Rattle.partitioning.specs.Parts.{IsEven, members_at}

module _ (most : ℕ) where
  -- where a part goes; one that has no place yet goes past all of them
  abbrev pub goes : List ℕ → ℕ → ℕ
  goes places part = get_or places part most

  module _ (places after : List ℕ) (place k : ℕ) (low : k < most) (pushed : after ≡ places ++ place ∷ []) where
    abbrev one : ℕ → ℕ → ℕ
    one a b = cond (a == b) 1 0

    -- a part that isn't the next one stays where it is
    stays : (part : ℕ) → part ≢ length places → goes after part ≡ goes places part
    stays part apart = elim (cases_lt part (length places)) as (λ _. goes after part ≡ goes places part) [
      | inl lower ↦ ap (λ xs. get_or xs part most) pushed ∙ get_or_append_left places (place ∷ []) most part lower
      | inr upper ↦ (
          let longer = length_push places place in
          ap (λ xs. get_or xs part most) pushed ∙ get_or_past (places ++ place ∷ []) part most (omega (arith, longer, upper, apart)) ∙ sym (get_or_past places part most upper))
    ]

    -- the next one comes to its place
    comes : goes after (length places) ≡ place
    comes = ap (λ xs. get_or xs (length places) most) pushed ∙ get_or_push places place most (length places) refl

    nowhere : goes places (length places) ≡ most
    nowhere = get_or_past places (length places) most (omega arith)

    -- a member of any part is counted at the place of the next one if it is of that part
    own : place ≡ k → (part : ℕ) → one (goes after part) k ≡ one (goes places part) k + one part (length places)
    own here part = elim (cases_eq part (length places)) as (λ _. one (goes after part) k ≡ one (goes places part) k + one part (length places)) [
      | inl same ↦ (
          let then : goes after part ≡ place = ap (goes after) same ∙ comes in
          let before : goes places part ≡ most = ap (goes places) same ∙ nowhere in
          grind (arith, nat_tests, then, before, same, here, low))
      | inr apart ↦ (
          let same = stays part apart in
          grind (arith, nat_tests, same, apart))
    ]

    another : place ≢ k → (part : ℕ) → one (goes after part) k ≡ one (goes places part) k
    another there part = elim (cases_eq part (length places)) as (λ _. one (goes after part) k ≡ one (goes places part) k) [
      | inl same ↦ (
          let then : goes after part ≡ place = ap (goes after) same ∙ comes in
          let before : goes places part ≡ most = ap (goes places) same ∙ nowhere in
          grind (arith, nat_tests, then, before, there, low))
      | inr apart ↦ ap (λ p. one p k) (stays part apart)
    ]

    own_count : place ≡ k → (xs : List ℕ) → count_by (λ p. goes after p == k) xs ≡ count_by (λ p. goes places p == k) xs + count_by (λ p. p == length places) xs
    own_count here [] = refl
    own_count here (x ∷ xs) =
        let rest = own_count here xs in
        let first = own here x in
        omega (arith, rest, first, sum_by-cons (λ p. one (goes after p) k) x xs, sum_by-cons (λ p. one (goes places p) k) x xs, sum_by-cons (λ p. one p (length places)) x xs)

    other_count : place ≢ k → (xs : List ℕ) → count_by (λ p. goes after p == k) xs ≡ count_by (λ p. goes places p == k) xs
    other_count there [] = refl
    other_count there (x ∷ xs) =
        let rest = other_count there xs in
        let first = another there x in
        omega (arith, rest, first, sum_by-cons (λ p. one (goes after p) k) x xs, sum_by-cons (λ p. one (goes places p) k) x xs)

  -- no member is at a place before the first part goes there
  none_there : (k : ℕ) → k < most → (xs : List ℕ) → count_by (λ p. goes [] p == k) xs ≡ 0
  none_there k low [] = refl
  none_there k low (x ∷ xs) =
      let rest = none_there k low xs in
      let none : (most == k) ≡ false = grind (arith, nat_tests, low) in
      let first : ◌≡◌ {A = ℕ} (cond (most == k) 1 0) 0 = ap (λ b. cond b 1 0) none in
      omega (arith, rest, first, sum_by-cons (λ p. cond (goes [] p == k) 1 0) x xs)

  -- the parts so far have gone to their places evenly, and these are filled with their members
  pub record EvenSoFar (deal : Deal) (filled places : List ℕ) : Type 0 where
    pub counted : (k : ℕ) → k < most → get_or filled k 0 ≡ members_at deal (goes places) k
    pub even : (large small : ℕ) → large < most → small < most → get_or filled small 0 < get_or filled large 0
        → (part : ℕ) × (part < length places) × (goes places part ≡ large) × (get_or filled large 0 ≤ get_or filled small 0 + members_at deal (λ p. p) part)

  pub empty_places : (deal : Deal) (filled : List ℕ) → ((k : ℕ) → k < most → get_or filled k 0 ≡ 0) → EvenSoFar deal filled []
  empty_places deal filled empty = record {
    counted = λ k low. empty k low ∙ sym (none_there k low deal.part_of);
    even = λ large small low_large low_small more. absurd (omega (arith, more, empty large low_large));
  }

  -- once each part has a place they have gone there evenly
  pub evenly : (deal : Deal) (filled places : List ℕ) → length places ≡ deal.parts → EvenSoFar deal filled places → IsEven deal most (goes places)
  evenly deal filled places all so_far large small low_large low_small more =
      let last = so_far.even large small low_large low_small (omega (arith, more, so_far.counted large low_large, so_far.counted small low_small)) in
      (last.0, omega (arith, all, last.1), last.2, omega (arith, last.3, so_far.counted large low_large, so_far.counted small low_small))

  -- the next part goes to the place with the fewest members
  module _ (deal : Deal) (filled places after : List ℕ) (place fewest size : ℕ) (inside : place < most) (each : length filled ≡ most) (read : fewest ≡ get_or filled place 0)
      (least : (k : ℕ) → k < most → get_or filled place 0 ≤ get_or filled k 0) (is : size ≡ members_at deal (λ p. p) (length places)) (pushed : after ≡ places ++ place ∷ [])
      (so_far : EvenSoFar deal filled places) where
    abbrev now_filled : List ℕ
    now_filled = set filled place (fewest + size)

    there : (k : ℕ) → k ≡ place → get_or now_filled k 0 ≡ get_or filled place 0 + size
    there k same = get_or-set_at filled place k (fewest + size) 0 same (omega (arith, inside, each)) ∙ ap (λ n. n + size) read

    elsewhere : (k : ℕ) → k ≢ place → get_or now_filled k 0 ≡ get_or filled k 0
    elsewhere k apart = get_or-set_other filled place k (fewest + size) 0 apart

    no_fewer : (k : ℕ) → get_or filled k 0 ≤ get_or now_filled k 0
    no_fewer k = elim (cases_eq k place) as (λ _. get_or filled k 0 ≤ get_or now_filled k 0) [
      | inl same ↦ (let before : get_or filled k 0 ≡ get_or filled place 0 = ap (λ j. get_or filled j 0) same in omega (arith, there k same, before))
      | inr apart ↦ omega (arith, elsewhere k apart)
    ]

    counted : (k : ℕ) → k < most → get_or now_filled k 0 ≡ members_at deal (goes after) k
    counted k low = elim (cases_eq k place) as (λ _. get_or now_filled k 0 ≡ members_at deal (goes after) k) [
      | inl same ↦ (
          let before : get_or filled place 0 ≡ members_at deal (goes places) k = ap (λ j. get_or filled j 0) (sym same) ∙ so_far.counted k low in
          let more = own_count places after place k low pushed (sym same) deal.part_of in
          omega (arith, there k same, before, more, is))
      | inr apart ↦ elsewhere k apart ∙ so_far.counted k low ∙ sym (other_count places after place k low pushed (λ same. apart (sym same)) deal.part_of)
    ]

    longer : length after ≡ length places + 1
    longer = ap length pushed ∙ length_push places place

    pub one_part_more : EvenSoFar deal now_filled after
    one_part_more = record {
      counted = counted;
      even = λ large small low_large low_small more.
          elim (cases_eq large place) as (λ _. (part : ℕ) × (part < length after) × (goes after part ≡ large) × (get_or now_filled large 0 ≤ get_or now_filled small 0 + members_at deal (λ p. p) part)) [
            | inl same ↦ (length places, omega (arith, longer), comes places after place place inside pushed ∙ sym same, omega (arith, there large same, least small low_small, no_fewer small, is))
            | inr apart ↦ (
                let before = elsewhere large apart in
                let last = so_far.even large small low_large low_small (omega (arith, before, more, no_fewer small)) in
                (last.0, omega (arith, longer, last.1), stays places after place place inside pushed last.0 (omega (arith, last.1)) ∙ last.2, omega (arith, before, no_fewer small, last.3)))
          ];
    }
