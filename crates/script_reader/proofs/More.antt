-- One more in a row.
use Rattle.std.proofs.Common.{◌≡◌, ◌<◌, ℕ, ◌+◌, List, [], ◌∷◌, ◌++◌, map, take, length, get_or, ap, sym, ◌∙◌}
use Rattle.std.proofs.lemmas.List.{map-append, map_more}

module _ {X Y Z : Type 0} (f : Y → Z) (g : X → Z) where
  -- what was made of the items so far, and of the next one
  pub more_made : (made next : List Y) (y : Y) (xs : List X) (i : ℕ) (x : X) → next ≡ made ++ y ∷ [] → map f made ≡ map g (take i xs) → i < length xs → x ≡ get_or xs i x
      → f y ≡ g x → map f next ≡ map g (take (i + 1) xs)
  more_made made next y xs i x pushed so_far within is same =
      ap (map f) pushed ∙ map-append f made (y ∷ []) ∙ (λ k. so_far k ++ same k ∷ [])
      ∙ sym (map_more g xs i x within ∙ ap (λ (z : X). map g (take i xs) ++ g z ∷ []) (sym is))
