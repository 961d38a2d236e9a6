-- The least event of a list, found place by place.
use Rattle.std.proofs.Common.{◌≡◌, ℕ, zero, suc, ◌+◌, ◌<◌, ◌⊎◌, true, List, length, get_or, IsSomeAnd, ap, ◌∙◌, sym, subst, inl, inr, arith}
use Rattle.std.proofs.lemmas.Bool.{cases_eq}
use Rattle.std.proofs.lemmas.List.{get_or_default}
use Rattle.std.proofs.lemmas.Option.{get_or_from_slice_get}
use Rattle.std.specs.Option.{is_some}
use Rattle.std.specs.List.{slice_get}
use Rattle.std.specs.FinMap.{contains_key}
use Rattle.base.specs.declared.key.Key.{Key}
use Rattle.base.specs.Order.{IsBefore}
use Rattle.base.specs.Run.{IsFirst}
use Rattle.worker_queue.specs.Slots.{by_key, AreUnlike, HaveOneMoment, IsLeastPlace, IsOfOneMoment, NoneIsBefore}
use Rattle.worker_queue.proofs.Lists.{before_itself, not_both, not_before_through, get-by_key, is_found, one_with}
use Rattle.worker_queue.proofs.Ends.{at_place}

module _ {E : Type 0} (key : E → Key) where
  module _ (xs : List E) where
    -- of the first events none comes before that at a place
    abbrev pub AreLow : ℕ → ℕ → Type 0
    AreLow place n = (k : ℕ) (d : E) → k < n → ¬ (IsBefore (key (get_or xs k d)) (key (get_or xs place d)))

    pub low_first : AreLow 0 1
    low_first zero d within = before_itself (key (get_or xs 0 d))
    low_first (suc k) d within = absurd (omega arith)

    module _ (place other : ℕ) (x y : E) (there : other < length xs) (within : place < length xs) (is_x : x ≡ get_or xs other x) (is_y : y ≡ get_or xs place y) (low : AreLow place other) where
      pub low_after : IsBefore (key x) (key y) → AreLow other (other + 1)
      low_after before k d under = by_place (cases_eq k other)
        where
          here : IsBefore (key (get_or xs other d)) (key (get_or xs place d))
          here = subst (λ a. IsBefore (key a) (key (get_or xs place d))) (is_x ∙ get_or_default xs other x d there) (subst (λ b. IsBefore (key x) (key b)) (is_y ∙ get_or_default xs place y d within) before)

          by_place : (k ≡ other) ⊎ (k ≡ other → ⊥) → ¬ (IsBefore (key (get_or xs k d)) (key (get_or xs other d)))
          by_place (inl is) = subst (λ n. ¬ (IsBefore (key (get_or xs n d)) (key (get_or xs other d)))) (sym is) (before_itself (key (get_or xs other d)))
          by_place (inr differs) =
              not_before_through (key (get_or xs k d)) (key (get_or xs place d)) (key (get_or xs other d)) (low k d (omega (arith, under, differs))) (not_both (key (get_or xs other d)) (key (get_or xs place d)) here)

      pub low_still : ¬ (IsBefore (key x) (key y)) → AreLow place (other + 1)
      low_still late k d under = by_place (cases_eq k other)
        where
          not_here : ¬ (IsBefore (key (get_or xs other d)) (key (get_or xs place d)))
          not_here = subst (λ a. ¬ (IsBefore (key a) (key (get_or xs place d)))) (is_x ∙ get_or_default xs other x d there) (subst (λ b. ¬ (IsBefore (key x) (key b))) (is_y ∙ get_or_default xs place y d within) late)

          by_place : (k ≡ other) ⊎ (k ≡ other → ⊥) → ¬ (IsBefore (key (get_or xs k d)) (key (get_or xs place d)))
          by_place (inl is) = subst (λ n. ¬ (IsBefore (key (get_or xs n d)) (key (get_or xs place d)))) (sym is) not_here
          by_place (inr differs) = low k d (omega (arith, under, differs))

    -- events of a set of one moment have one moment
    pub moment_of_list : AreUnlike key xs → IsOfOneMoment (by_key key xs) → HaveOneMoment key xs
    moment_of_list unlike one k n d first second = one (key (get_or xs k d)) (key (get_or xs n d)) (here k first) (here n second)
      where
        here : (k : ℕ) → k < length xs → contains_key (by_key key xs) (key (get_or xs k d)) ≡ true
        here k within =
            let e = get_or xs k d in
            ap is_some (get-by_key key xs (key e) ∙ is_found key xs e unlike (k, within, get_or_default xs k e d within))

    -- the event at the least place is the first of all
    module _ (place : ℕ) (within : place < length xs) (unlike : AreUnlike key xs) (least : IsLeastPlace key xs place) where
      module _ (e : E) (is : e ≡ get_or xs place e) where
        none_less : NoneIsBefore (by_key key xs) (key e)
        none_less q here =
            let one = one_with key xs q here in
            let at = one.1.2 in
            subst (λ k. ¬ (IsBefore k (key e))) (ap key at ∙ one.2) (subst (λ y. ¬ (IsBefore (key (get_or xs one.1.0 one.0)) (key y))) (get_or_default xs place one.0 e within ∙ sym is) (least one.1.0 one.0 one.1.1))

        first_of_list : IsFirst (by_key key xs) (key e) e
        first_of_list = record { here = get-by_key key xs (key e) ∙ is_found key xs e unlike (place, within, sym is); least = none_less }

      pub first_at : IsSomeAnd (slice_get xs place) (λ e. IsFirst (by_key key xs) (key e) e)
      first_at = at_place key xs place _ within (λ e at. first_of_list e (sym (get_or_from_slice_get xs place e e at)))
