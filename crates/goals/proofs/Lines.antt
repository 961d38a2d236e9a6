-- Lines that are put one after the other, of the items of two lists side by side.
use Rattle.std.proofs.Common.{◌≡◌, ◌∙◌, ◌+◌, ◌<◌, ℕ, List, [], ◌∷◌, ◌++◌, Some, append-nil, append_assoc, ap, arith, get_or, length, sym, take}
use Rattle.std.specs.Prelude.{slice_get}
use Rattle.std.specs.List.{flat_map, zip}
use Rattle.std.proofs.lemmas.List.{length-take-le, take_more}
use Rattle.std.proofs.lemmas.Option.{get_or_from_slice_get, slice_get_within}

module _ {A B : Type 0} (line : A → B → List ℕ) where
  abbrev pub lines_of : List A → List B → List ℕ
  lines_of xs ys = flat_map (λ told. line told.0 told.1) (zip xs ys)

  lines_more : (xs : List A) (ys : List B) (x : A) (y : B) → length xs ≡ length ys → lines_of (xs ++ x ∷ []) (ys ++ y ∷ []) ≡ lines_of xs ys ++ line x y
  lines_more [] [] x y same = append-nil (line x y)
  lines_more [] (t ∷ ys) x y same = absurd (omega (arith, same))
  lines_more (a ∷ xs) [] x y same = absurd (omega (arith, same))
  lines_more (a ∷ xs) (t ∷ ys) x y same = ap (λ l. line a t ++ l) (lines_more xs ys x y (omega (arith, same))) ∙ sym (append_assoc (line a t) (lines_of xs ys) (line x y))

  -- one line more
  pub line_added : (xs : List A) (ys : List B) (place : ℕ) (x : A) (d : B) (before text after : List ℕ) → length xs ≡ length ys → slice_get xs place ≡ Some x
      → text ≡ before ++ lines_of (take place xs) (take place ys) → after ≡ text ++ line x (get_or ys place d) → after ≡ before ++ lines_of (take (place + 1) xs) (take (place + 1) ys)
  line_added xs ys place x d before text after same there so is =
      let y = get_or ys place d in
      let here = take place xs in
      let front = take place ys in
      let lt : place < length xs = slice_get_within xs place x there in
      let long_x : length here ≡ place = length-take-le place xs (omega (arith, lt)) in
      let long_y : length front ≡ place = length-take-le place ys (omega (arith, same, lt)) in
      let more : take (place + 1) xs ≡ here ++ x ∷ [] = take_more xs place x lt ∙ ap (λ z. here ++ z ∷ []) (get_or_from_slice_get xs place x x there) in
      is ∙ ap (λ l. l ++ line x y) so ∙ append_assoc before (lines_of here front) (line x y) ∙ ap (λ l. before ++ l) (sym (lines_more here front x y (long_x ∙ sym long_y)))
      ∙ ap (λ l. before ++ lines_of l (front ++ y ∷ [])) (sym more) ∙ ap (λ l. before ++ lines_of (take (place + 1) xs) l) (sym (take_more ys place d (omega (arith, same, lt))))
