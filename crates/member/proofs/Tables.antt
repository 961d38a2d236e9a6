-- A table of another that is merged, entry by entry.
use Rattle.std.proofs.Common.{◌≡◌, ℕ, ◌+◌, ◌<◌, List, [], ◌∷◌, ◌++◌, length, get_or, take, drop, refl, sym, ap, subst, ◌∙◌}
use Rattle.std.proofs.lemmas.List.{take-append-drop}
use Rattle.base.specs.declared.key.Key.{Key}
use Rattle.scenario.specs.Setup.{Setup}
use Rattle.incarnation.specs.declared.Update.{Update}
use Rattle.member.specs.Effects.{Effect}
use Rattle.member.specs.Merges.{entry_merged, table_merged}
use Rattle.member.specs.CounterOverflow.{IsOverflowed}
use Rattle.member.proofs.ProcessOverflow.{kept_table}
use Rattle.member.proofs.Lists.{take_item}

module _ (s : Setup) (k : Key) where
  merged_append : (us vs : List Update) (o : Effect) → table_merged s k (us ++ vs) o ≡ table_merged s k vs (table_merged s k us o)
  unfolding table_merged
  merged_append [] vs o = refl
  merged_append (u ∷ us) vs o = merged_append us vs (entry_merged s k u o)

  one_more : (us : List Update) (u : Update) (o : Effect) → table_merged s k (us ++ u ∷ []) o ≡ entry_merged s k u (table_merged s k us o)
  unfolding table_merged
  one_more us u o = merged_append us (u ∷ []) o

  -- the next entry is merged
  pub merged_next : (us : List Update) (i : ℕ) (u : Update) (o p q : Effect) → i < length us → u ≡ get_or us i u
      → p ≡ table_merged s k (take i us) o → q ≡ entry_merged s k u p → q ≡ table_merged s k (take (i + 1) us) o
  merged_next us i u o p q h is so_far next =
      next ∙ ap (entry_merged s k u) so_far ∙ sym (one_more (take i us) u o) ∙ ap (λ l. table_merged s k l o) (sym (take_item us i u h is))

  -- a counter that overflows with one of the entries overflows with all
  pub merged_overflow : (us : List Update) (i : ℕ) (u : Update) (o p : Effect) → i < length us → u ≡ get_or us i u
      → p ≡ table_merged s k (take i us) o → IsOverflowed (entry_merged s k u p).state → IsOverflowed (table_merged s k us o).state
  merged_overflow us i u o p h is so_far overflow =
      let there : IsOverflowed (table_merged s k (take (i + 1) us) o).state = subst (λ (q : Effect). IsOverflowed q.state) (merged_next us i u o p _ h is so_far refl) overflow in
      subst (λ l. IsOverflowed (table_merged s k l o).state) (take-append-drop (i + 1) us)
      (subst (λ (q : Effect). IsOverflowed q.state) (sym (merged_append (take (i + 1) us) (drop (i + 1) us) o)) (kept_table s k (drop (i + 1) us) _ there))
