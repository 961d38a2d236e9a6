-- What is held against lots of items, one lot after the other.
use Rattle.std.proofs.Common.{◌≡◌, List, [], ◌∷◌, ◌++◌, refl, ap, subst, sym, ◌∙◌}
use Rattle.std.specs.List.{AllZip, flat_map}
use Rattle.std.proofs.lemmas.List.{append-nil}
use Rattle.rayon.proofs.ListFacts.{AllZip-append, flat_map-append}

-- what is held against a list with one more at its end is a list with one more at its end
pub record EndsIn {X Y : Type 0} (R : X → Y → Type 0) (xs : List X) (ys : List Y) (y : Y) : Type 0 where
  pub front : List X
  pub last : X
  pub whole : xs ≡ front ++ last ∷ []
  pub before : AllZip R front ys
  pub there : R last y

pub ends_in : {X Y : Type 0} (R : X → Y → Type 0) (xs : List X) (ys : List Y) (y : Y) → AllZip R xs (ys ++ y ∷ []) → EndsIn R xs ys y
ends_in R [] [] y h = absurd h
ends_in R (x ∷ []) [] y h = record { front = []; last = x; whole = refl; before = tt; there = h.0 }
ends_in R (x ∷ z ∷ xs) [] y h = absurd h.1
ends_in R [] (z ∷ ys) y h = absurd h
ends_in R (x ∷ xs) (z ∷ ys) y h =
    let rest = ends_in R xs ys y h.1 in
    record { front = x ∷ rest.front; last = rest.last; whole = ap (λ l. x ∷ l) rest.whole; before = (h.0, rest.before); there = rest.there }

-- what is held against the items of lists, one list after the other, with one list more
pub one_lot_more : {X Y L : Type 0} (R : X → Y → Type 0) (P : List X → L → Type 0) (lots : List L) (lot : L) (made more : List Y)
    → ((xs : List (List X)) → AllZip P xs lots → AllZip R (flat_map (λ l. l) xs) made)
    → ((x : List X) → P x lot → AllZip R x more)
    → (xs : List (List X)) → AllZip P xs (lots ++ lot ∷ []) → AllZip R (flat_map (λ l. l) xs) (made ++ more)
one_lot_more R P lots lot made more before here xs zipped =
    let end = ends_in P xs lots lot zipped in
    let joined = AllZip-append R (flat_map (λ l. l) end.front) end.last made more (before end.front end.before) (here end.last end.there) in
    let all : flat_map (λ l. l) xs ≡ flat_map (λ l. l) end.front ++ end.last =
    ap (flat_map (λ l. l)) end.whole ∙ flat_map-append end.front (end.last ∷ []) ∙ ap (λ l. flat_map (λ l. l) end.front ++ l) (append-nil end.last) in
    subst (λ l. AllZip R l (made ++ more)) (sym all) joined

-- no lot, and nothing held
pub no_lot : {X Y L : Type 0} (R : X → Y → Type 0) (P : List X → L → Type 0) (made : List Y) → made ≡ []
    → (xs : List (List X)) → AllZip P xs [] → AllZip R (flat_map (λ l. l) xs) made
no_lot R P made none [] zipped = subst (AllZip R []) (sym none) tt
no_lot R P made none (x ∷ xs) zipped = absurd zipped
