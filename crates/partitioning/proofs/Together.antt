-- Members one after the other, each into the part where its own part goes.
use Rattle.std.proofs.Common.{◌≡◌, ℕ, ◌+◌, ◌<◌, List, [], ◌∷◌, ◌++◌, length, Some, All, map, take, get_or, refl, arith}
use Rattle.std.specs.List.{slice_get}
use Rattle.std.proofs.lemmas.List.{take_more, map-append}
use Rattle.std.proofs.lemmas.List.Elements.{All-push}
use Rattle.std.proofs.lemmas.Option.{slice_get_within, slice_get_read, get_or_from_slice_get}

module _ (most : ℕ) (places parts placed after : List ℕ) (part place : ℕ) (within : part < length places) (read : place ≡ get_or places part place) (pushed : after ≡ placed ++ place ∷ []) where
  abbrev place_of : ℕ → ℕ
  place_of p = get_or places p most

  -- with one member more they are placed up to the next
  pub one_more : (member : ℕ) → slice_get parts member ≡ Some part → placed ≡ map place_of (take member parts) → after ≡ map place_of (take (member + 1) parts)
  one_more member here so_far =
      let inside : member < length parts = slice_get_within parts member part here in
      let at : get_or parts member 0 ≡ part = get_or_from_slice_get parts member part 0 here in
      let goes : place_of part ≡ place = get_or_from_slice_get places part place most (slice_get_read places (length places) part place refl within read) in
      let taken = take_more parts member 0 inside in
      rw (taken, map-append, at, goes, ← so_far) pushed

  -- and all are below the number of parts
  pub below_too : All (λ p. p < most) places → All (λ p. p < most) placed → All (λ p. p < most) after
  below_too low so_far =
      let under = low part place within in
      rw pushed (All-push (λ p. p < most) placed place so_far (omega (arith, under, read)))

-- members one after the other, each with its own part
pub next_too : (parts so_far after : List ℕ) (part member : ℕ) → slice_get parts member ≡ Some part → after ≡ so_far ++ part ∷ [] → so_far ≡ take member parts → after ≡ take (member + 1) parts
next_too parts so_far after part member here pushed taken =
    let inside : member < length parts = slice_get_within parts member part here in
    let at : get_or parts member 0 ≡ part = get_or_from_slice_get parts member part 0 here in
    let more = take_more parts member 0 inside in
    rw (more, at, ← taken) pushed
