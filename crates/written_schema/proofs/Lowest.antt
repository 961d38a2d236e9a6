-- The lowest rule that things in a row break, one after the other.
use Rattle.std.proofs.Common.{◌≡◌, ◌<◌, ◌≤◌, ℕ, ◌+◌, min, List, [], ◌∷◌, map, drop, length, get_or, refl, ap, sym, subst, ◌∙◌}
use Rattle.std.proofs.lemmas.List.{drop_all, drop_more}
use Rattle.written_schema.specs.Lowest.{no_rule, Lowest, LowestFrom}

module _ {A : Type 0} (Breaks : A → ℕ → Type 0) (xs : List A) where
  -- what the things from a place on break, with what those before broke, is what all break
  abbrev pub IsLowSoFar : (low place : ℕ) → Type 0
  IsLowSoFar low place = (rule : ℕ) → LowestFrom Breaks low (drop place xs) rule → Lowest Breaks xs rule

  pub one_lower : (low place here next : ℕ) (x : A) → place < length xs → x ≡ get_or xs place x → Breaks x here → next ≡ min low here → IsLowSoFar low place
      → IsLowSoFar next (place + 1)
  one_lower low place here next x within is broken lower so_far rule rest =
      let from_here : drop place xs ≡ x ∷ drop (place + 1) xs = drop_more xs place x within ∙ ap (λ (y : A). y ∷ drop (place + 1) xs) (sym is) in
      so_far rule
      (subst (λ (ys : List A). LowestFrom Breaks low ys rule) (sym from_here)
      (here, broken, subst (λ (n : ℕ). LowestFrom Breaks n (drop (place + 1) xs) rule) lower rest))

  pub all_low : (low place : ℕ) → length xs ≤ place → IsLowSoFar low place → Lowest Breaks xs low
  all_low low place past so_far = so_far low (subst (λ (ys : List A). LowestFrom Breaks low ys low) (sym (drop_all place xs past)) refl)

-- the same of what things are seen as
module _ {A X : Type 0} (Breaks : A → ℕ → Type 0) (see : X → A) where
  lowest_seen_from : (xs : List X) (low rule : ℕ) → LowestFrom (λ x. Breaks (see x)) low xs rule → LowestFrom Breaks low (map see xs) rule
  lowest_seen_from [] low rule is = is
  lowest_seen_from (x ∷ xs) low rule is = (is.0, is.1, lowest_seen_from xs (min low is.0) rule is.2)

  pub lowest_seen : (xs : List X) (rule : ℕ) → Lowest (λ x. Breaks (see x)) xs rule → Lowest Breaks (map see xs) rule
  lowest_seen xs rule is = lowest_seen_from xs no_rule rule is
