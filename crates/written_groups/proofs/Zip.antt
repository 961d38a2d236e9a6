-- One more in a row.
use Rattle.std.proofs.Common.{◌≡◌, ◌<◌, ℕ, ◌+◌, List, [], ◌∷◌, ◌++◌, map, take, length, get_or, ap, sym, subst, ◌∙◌}
use Rattle.std.specs.List.{AllZip}
use Rattle.std.proofs.lemmas.List.{map_more}

module _ {A B : Type 0} (R : A → B → Type 0) where
  zip_push : (xs : List A) (ys : List B) (x : A) (y : B) → AllZip R xs ys → R x y → AllZip R (xs ++ x ∷ []) (ys ++ y ∷ [])
  zip_push [] [] x y so_far next = (next, tt)
  zip_push [] (b ∷ ys) x y so_far next = absurd so_far
  zip_push (a ∷ xs) [] x y so_far next = absurd so_far
  zip_push (a ∷ xs) (b ∷ ys) x y so_far next = (so_far.0, zip_push xs ys x y so_far.1 next)

  -- the items so far, and the next one
  pub zip_more : {X : Type 0} (f : X → A) (made next : List B) (y : B) (xs : List X) (i : ℕ) (x : X) → next ≡ made ++ y ∷ [] → AllZip R (map f (take i xs)) made
      → i < length xs → x ≡ get_or xs i x → R (f x) y → AllZip R (map f (take (i + 1) xs)) next
  zip_more f made next y xs i x pushed so_far within is here =
      let more : map f (take (i + 1) xs) ≡ map f (take i xs) ++ f x ∷ [] =
      map_more f xs i x within ∙ ap (λ z. map f (take i xs) ++ f z ∷ []) (sym is) in
      subst (λ (l : List A). AllZip R l next) (sym more)
      (subst (λ (l : List B). AllZip R (map f (take i xs) ++ f x ∷ []) l) (sym pushed) (zip_push (map f (take i xs)) made (f x) y so_far here))
