-- A list of events from which one is taken, and the last put into its place.
use Rattle.std.proofs.Common.{◌≡◌, ◌≢◌, ℕ, ◌+◌, ◌-◌, ◌<◌, ◌≤◌, ◌⊎◌, false, List, ◌∷◌, length, get_or, swap_remove, Option, Some, None, IsSomeAnd, IsPermutation, Contains, ap, ◌∙◌, sym, subst, refl, inl, inr, arith}
use Rattle.std.specs.Option.{is_some}
use Rattle.std.specs.List.{slice_get}
use Rattle.std.specs.Ordering.{is_lt}
use Rattle.std.specs.FinMap.{contains_key, remove}
use Rattle.std.proofs.lemmas.Bool.{cases_eq}
use Rattle.std.proofs.lemmas.Option.{slice_get-get_or, slice_get_within, get_or_from_slice_get}
use Rattle.std.proofs.lemmas.List.Sorted.{IsPermutation-swap_remove}
use Rattle.base.specs.declared.key.Key.{Key}
use Rattle.base.specs.Order.{key_cmp, same_key}
use Rattle.base.specs.Run.{IsFirst}
use Rattle.worker_queue.specs.Slots.{by_key, AreUnlike, AreFalling}
use Rattle.worker_queue.proofs.Lists.{counted, none_in_rest, counted_here, unlike_rest, unlike_moved, by_key-moved, remove-insert, last_first, get-by_key, none_found}
use Rattle.worker_queue.proofs.Ends.{up_to_last}

pub within_some : {E : Type 0} (xs : List E) (place : ℕ) (P : E → Type 0) → IsSomeAnd (slice_get xs place) P → place < length xs
within_some xs place P some = by_option (slice_get xs place) refl some
  where
    by_option : (o : Option _) → slice_get xs place ≡ o → IsSomeAnd o P → place < length xs
    by_option None is some = absurd some
    by_option (Some e) is some = slice_get_within xs place e is

module _ {E : Type 0} (key : E → Key) where
  module _ (xs ys : List E) (place : ℕ) (e : E) (within : place < length xs) (is : e ≡ get_or xs place e) (left : ys ≡ swap_remove xs place e) (unlike : AreUnlike key xs) where
    moved : IsPermutation xs (e ∷ ys)
    moved = subst (λ l. IsPermutation xs (e ∷ l)) (sym left) (IsPermutation-swap_remove xs place e within is)

    unlike_both : AreUnlike key (e ∷ ys)
    unlike_both = unlike_moved key xs (e ∷ ys) moved unlike

    pub unlike_taken : AreUnlike key ys
    unlike_taken = unlike_rest key e ys unlike_both

    none_left : counted key ys (key e) ≡ 0
    none_left = none_in_rest key e ys unlike_both

    new : contains_key (by_key key ys) (key e) ≡ false
    new = ap is_some (get-by_key key ys (key e) ∙ none_found key ys (key e) none_left)

    -- the set is without it
    pub by_key-taken : by_key key ys ≡ remove (by_key key xs) (key e)
    by_key-taken = sym (ap (λ m. remove m (key e)) (sym (by_key-moved key xs (e ∷ ys) moved unlike)) ∙ remove-insert (by_key key ys) (key e) e new)

    module _ (long : length ys + 1 ≡ length xs) (moves : (d : E) → place + 1 < length xs → get_or ys place d ≡ get_or xs (length xs - 1) d) (stays : (k : ℕ) (d : E) → k ≢ place → k + 1 < length xs → get_or ys k d ≡ get_or xs k d) where
      -- of falling events the first of all is the last
      not_before_end : IsFirst (by_key key xs) (key e) e → AreFalling key xs → place + 1 < length xs → ⊥
      not_before_end first falling far =
          let last = get_or xs (length xs - 1) e in
          let at : Some last ≡ slice_get xs (length xs - 1) = sym (slice_get-get_or xs (length xs - 1) e (omega (arith, far))) in
          let too = last_first key xs _ last (up_to_last key xs last at) unlike falling in
          let same : key e ≡ key last = same_key (key e) (key last) (too.least (key e) (ap is_some first.here)) (first.least (key last) (ap is_some too.here)) in
          let here : Contains ys last = (place, omega (arith, far, long), moves last far ∙ get_or_from_slice_get xs (length xs - 1) last last (sym at)) in
          let some : 1 ≤ counted key ys (key last) = counted_here key ys last here in
          let none : counted key ys (key last) ≡ 0 = ap (counted key ys) (sym same) ∙ none_left in
          omega (arith, some, none)

      -- falling events fall still
      pub falling_taken : IsFirst (by_key key xs) (key e) e → AreFalling key xs → AreFalling key ys
      falling_taken first falling k d from inside = by_place (cases_eq place (length xs - 1))
        where
          by_place : (place ≡ length xs - 1) ⊎ (place ≡ length xs - 1 → ⊥) → is_lt (key_cmp (key (get_or ys k d)) (key (get_or ys (k + 1) d))) ≡ false
          by_place (inl end) =
              let here : get_or ys k d ≡ get_or xs k d = stays k d (λ same. omega (arith, same, end, long, inside)) (omega (arith, long, inside)) in
              let next : get_or ys (k + 1) d ≡ get_or xs (k + 1) d = stays (k + 1) d (λ same. omega (arith, same, end, long, inside)) (omega (arith, long, inside)) in
              ap (λ y. is_lt (key_cmp (key (get_or ys k d)) (key y))) next ∙ ap (λ y. is_lt (key_cmp (key y) (key (get_or xs (k + 1) d)))) here ∙ falling k d from (omega (arith, long, inside))
          by_place (inr differs) = absurd (not_before_end first falling (omega (arith, differs, within)))
