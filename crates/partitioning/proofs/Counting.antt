-- Members one after the other, each counted with its part.
use Rattle.std.proofs.Common.{◌≡◌, ◌≢◌, ◌==◌, ℕ, ◌+◌, ◌<◌, List, length, Some, take, get_or, count_by, true, false, inl, inr, refl, ap, ◌∙◌, arith}
use Rattle.std.proofs.Math.ListN.{set}
use Rattle.std.specs.List.{slice_get}
use Rattle.std.proofs.lemmas.Bool.{cases_lt}
use Rattle.std.proofs.lemmas.Bool.Decides.{nat_tests}
use Rattle.std.proofs.lemmas.Grind.{get_or-set_at}
use Rattle.std.proofs.lemmas.List.{get_or-set_other}
use Rattle.std.proofs.lemmas.List.Sums.{count_by_more_yes, count_by_more_no}
use Rattle.std.proofs.lemmas.Option.{slice_get_within, slice_get_read, get_or_from_slice_get}

module _ (parts sizes : List ℕ) (member part size : ℕ) (here : slice_get parts member ≡ Some part) (within : part < length sizes) (read : size ≡ get_or sizes part size) where
  abbrev IsCounted : List ℕ → ℕ → ℕ → Type 0
  IsCounted counts count p = get_or counts p 0 ≡ count_by (λ q. q == p) (take count parts)

  -- the member's own part has one more
  own : (p : ℕ) → p ≡ part → IsCounted sizes member p → IsCounted (set sizes part (size + 1)) (member + 1) p
  own p is so_far =
      let inside : member < length parts = slice_get_within parts member part here in
      let at : get_or parts member 0 ≡ part = get_or_from_slice_get parts member part 0 here in
      let test : (get_or parts member 0 == p) ≡ true = grind (arith, nat_tests) in
      let more = count_by_more_yes (λ q. q == p) parts member 0 inside test in
      let before : get_or sizes p 0 ≡ size = ap (λ k. get_or sizes k 0) is ∙ get_or_from_slice_get sizes part size 0 (slice_get_read sizes (length sizes) part size refl within read) in
      let after : get_or (set sizes part (size + 1)) p 0 ≡ size + 1 = get_or-set_at sizes part p (size + 1) 0 is within in
      omega (arith, more, before, after, so_far)

  -- the others have as many
  another : (p : ℕ) → p ≢ part → IsCounted sizes member p → IsCounted (set sizes part (size + 1)) (member + 1) p
  another p apart so_far =
      let inside : member < length parts = slice_get_within parts member part here in
      let at : get_or parts member 0 ≡ part = get_or_from_slice_get parts member part 0 here in
      let test : (get_or parts member 0 == p) ≡ false = grind (arith, nat_tests) in
      let same = count_by_more_no (λ q. q == p) parts member 0 inside test in
      let after = get_or-set_other sizes part p (size + 1) 0 apart in
      omega (arith, same, after, so_far)

  pub one_more : (p : ℕ) → IsCounted sizes member p → IsCounted (set sizes part (size + 1)) (member + 1) p
  one_more p = elim (cases_lt p part) as (λ _. IsCounted sizes member p → IsCounted (set sizes part (size + 1)) (member + 1) p) [
    | inl lower ↦ another p (omega (arith, lower))
    | inr upper ↦ elim (cases_lt part p) as (λ _. IsCounted sizes member p → IsCounted (set sizes part (size + 1)) (member + 1) p) [
      | inl higher ↦ another p (omega (arith, higher))
      | inr equal ↦ own p (omega (arith, upper, equal))
    ]
  ]
