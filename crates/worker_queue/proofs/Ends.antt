-- What is last in a list of events.
use Rattle.std.proofs.Common.{◌≡◌, ℕ, ◌+◌, ◌-◌, ◌<◌, true, List, [], ◌∷◌, ◌++◌, length, take, drop, get_or, Option, Some, None, IsSomeAnd, Contains, ap, ◌∙◌, sym, subst, refl, arith}
use Rattle.std.specs.Option.{is_some}
use Rattle.std.specs.List.{slice_get}
use Rattle.std.specs.FinMap.{FinMap, contains_key, get, get-empty}
use Rattle.std.proofs.lemmas.Bool.{false≢true}
use Rattle.std.proofs.lemmas.List.{take-append-drop, drop_more, drop_all}
use Rattle.std.proofs.lemmas.Option.{slice_get-get_or, slice_get_within, get_or_from_slice_get}
use Rattle.base.specs.declared.key.Key.{Key}
use Rattle.base.specs.Order.{key_cmp, IsBefore}
use Rattle.base.specs.Run.{IsFirst}
use Rattle.worker_queue.specs.Slots.{by_key, AreUnlike, AreFalling, IsOfOneMoment, NoneIsBefore}
use Rattle.worker_queue.proofs.Lists.{get-by_key, is_found, last_first, not_before_through}

module _ {E : Type 0} (key : E → Key) where
  pub no_last : (xs : List E) → None ≡ slice_get xs (length xs - 1) → xs ≡ []
  no_last [] none = refl
  no_last (x ∷ xs) none = absurd (false≢true (ap is_some (none ∙ slice_get-get_or (x ∷ xs) (length (x ∷ xs) - 1) x (omega arith))))

  pub none_in_none : (xs : List E) (limit : Key) → None ≡ slice_get xs (length xs - 1) → NoneIsBefore (by_key key xs) limit
  none_in_none xs limit none q here before =
      false≢true (sym (ap (λ l. is_some (get (by_key key l) q)) (no_last xs none) ∙ ap is_some (get-empty key_cmp q)) ∙ here)

  module _ (xs : List E) (e : E) (last : Some e ≡ slice_get xs (length xs - 1)) where
    long : 0 < length xs
    long = let h = slice_get_within xs (length xs - 1) e (sym last) in omega arith

    pub contains_last : Contains xs e
    contains_last = (length xs - 1, (let h = long in omega arith), get_or_from_slice_get xs (length xs - 1) e e (sym last))

    pub up_to_last : xs ≡ take (length xs - 1) xs ++ e ∷ []
    up_to_last =
        let h = long in
        let all : take (length xs - 1) xs ++ drop (length xs - 1) xs ≡ xs = take-append-drop (length xs - 1) xs in
        let end : drop (length xs - 1) xs ≡ get_or xs (length xs - 1) e ∷ drop ((length xs - 1) + 1) xs = drop_more xs (length xs - 1) e (omega arith) in
        let at : get_or xs (length xs - 1) e ≡ e = get_or_from_slice_get xs (length xs - 1) e e (sym last) in
        let none : drop ((length xs - 1) + 1) xs ≡ [] = drop_all ((length xs - 1) + 1) xs (omega arith) in
        sym all ∙ ap (λ l. take (length xs - 1) xs ++ l) (end ∙ ap (λ x. x ∷ drop ((length xs - 1) + 1) xs) at ∙ ap (λ l. e ∷ l) none)

    -- none of the events of a moment is before a limit that the least key of the moment isn't before
    pub none_before_moment : (first limit : Key) → AreUnlike key xs → IsOfOneMoment (by_key key xs) → ((q : Key) → IsBefore q first → q.at < (key e).at) → ¬ (IsBefore first limit) → NoneIsBefore (by_key key xs) limit
    none_before_moment first limit unlike one earlier late q here =
        let there : contains_key (by_key key xs) (key e) ≡ true = ap is_some (get-by_key key xs (key e) ∙ is_found key xs e unlike contains_last) in
        let same : q.at ≡ (key e).at = one q (key e) here there in
        not_before_through q first limit (λ before. let less = earlier q before in absurd (omega arith)) late

  -- ---- the first of all

  -- what stands at a place within a list
  pub at_place : (xs : List E) (place : ℕ) (P : E → Type 0) → place < length xs → ((e : E) → slice_get xs place ≡ Some e → P e) → IsSomeAnd (slice_get xs place) P
  at_place [] place P within holds = absurd (omega arith)
  at_place (x ∷ xs) place P within holds =
      let at = slice_get-get_or (x ∷ xs) place x within in
      subst (λ o. IsSomeAnd o P) (sym at) (holds (get_or (x ∷ xs) place x) at)

  -- of falling events it is the last
  pub last_of_falling : (xs : List E) → 0 < length xs → AreUnlike key xs → AreFalling key xs → IsSomeAnd (slice_get xs (length xs - 1)) (λ e. IsFirst (by_key key xs) (key e) e)
  last_of_falling xs some unlike falling = at_place xs (length xs - 1) _ (omega (arith, some)) (λ e at. last_first key xs (take (length xs - 1) xs) e (up_to_last xs e (sym at)) unlike falling)

  -- none of the events is before a limit that the first isn't before
  pub none_before_first : (o : Option E) (set : FinMap key_cmp E) (e : E) (limit : Key) → o ≡ Some e → IsSomeAnd o (λ e. IsFirst set (key e) e) → ¬ (IsBefore (key e) limit) → NoneIsBefore set limit
  none_before_first o set e limit at first late q here =
      not_before_through q (key e) limit ((subst (λ o. IsSomeAnd o (λ e. IsFirst set (key e) e)) at first).least q here) late
