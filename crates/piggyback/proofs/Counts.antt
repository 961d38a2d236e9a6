-- What is found of a subject after a message.
use Rattle.std.proofs.Common.{◌≡◌, ℕ, ◌<◌, true, false, cond, ltb, List, [], ◌∷◌, map, filter, Option, Some, None, IfSome, refl, sym, ap, subst, ◌∙◌, inl, inr, arith}
use Rattle.std.specs.Ordering.{nat_cmp, eq_by_cmp, is_lt}
use Rattle.std.specs.Cmp.{nat_cmp_total}
use Rattle.std.specs.Option.{option_and_then}
use Rattle.std.specs.FinMap.{entries, entries_sorted, get, get-entries, get-from_entries}
use Rattle.std.specs.FinMap.Entries as by
use Rattle.std.proofs.lemmas.Bool.{and_parts, cond_both, cases_Bool, cases_eq, ltb-true}
use Rattle.std.proofs.lemmas.Bool.Decides.{nat_tests}
use Rattle.incarnation.specs.declared.Update.{Update}
use Rattle.piggyback.specs.Picked.{Counted, HeldUpdates, counted_with, left_after}
use Rattle.piggyback.proofs.Rising.{true_from_T}

pub tied : (m n : ℕ) → m ≡ n → eq_by_cmp nat_cmp m n ≡ true
tied m n same = grind (arith, nat_tests)

pub not_tied : (m n : ℕ) → (m ≡ n → ⊥) → eq_by_cmp nat_cmp m n ≡ false
not_tied m n differ = grind (arith, nat_tests)

above : (m n : ℕ) → is_lt (nat_cmp m n) ≡ true → eq_by_cmp nat_cmp m n ≡ false
above m n h = grind (arith, nat_tests)

-- a key below all others is none of theirs
pub find_below_all : (key : ℕ) (es : List (ℕ × Counted)) → by.below_all nat_cmp key es ≡ true → by.find nat_cmp key es ≡ None
find_below_all key [] h = refl
find_below_all key (e ∷ es) h =
    let parts = and_parts (is_lt (nat_cmp key e.0)) (by.below_all nat_cmp key es) h in
    rw (above key e.0 parts.0) (find_below_all key es parts.1)

module _ (updates : List Update) (limit : ℕ) where
  -- it after the message, if it is left
  abbrev pub kept : Counted → Option Counted
  kept it = cond (ltb (counted_with updates it).1 limit) (Some (counted_with updates it)) None

  abbrev left : List (ℕ × Counted) → List (ℕ × Counted)
  left es = filter (λ e. ltb e.1.1 limit) (map (λ e. (e.0, counted_with updates e.1)) es)

  find-left : (key : ℕ) (es : List (ℕ × Counted)) → by.is_sorted nat_cmp es ≡ true → by.find nat_cmp key (left es) ≡ option_and_then kept (by.find nat_cmp key es)
  find-left key [] sorted = refl
  find-left key (e ∷ es) sorted =
      let parts = and_parts (by.below_all nat_cmp e.0 es) (by.is_sorted nat_cmp es) sorted in
      let rest = find-left key es parts.1 in
      elim (cases_eq key e.0) [
        | inl same ↦
            let none : by.find nat_cmp key es ≡ None = find_below_all key es (subst (λ k. by.below_all nat_cmp k es ≡ true) (sym same) parts.0) in
            rw (tied key e.0 same) (elim (cases_Bool (ltb (counted_with updates e.1).1 limit)) [
              | inl stays ↦ rw (stays, tied key e.0 same) refl
              | inr goes ↦ rw goes (rest ∙ ap (option_and_then kept) none)
            ])
        | inr other ↦
            rw (not_tied key e.0 other) (elim (cases_Bool (ltb (counted_with updates e.1).1 limit)) [
              | inl stays ↦ rw (stays, not_tied key e.0 other) rest
              | inr goes ↦ rw goes rest
            ])
      ]

  -- a look-up after a message is that before it, counted, if it is left
  pub get-left_after : (held : HeldUpdates) (subject : ℕ) → get (left_after held updates limit) subject ≡ option_and_then kept (get held subject)
  get-left_after held subject =
      get-from_entries nat_cmp_total (left (entries held)) subject
      ∙ find-left subject (entries held) (true_from_T _ (entries_sorted held))
      ∙ ap (option_and_then kept) (sym (get-entries held subject))

  pub kept_below : (o : Option Counted) → IfSome (option_and_then kept o) (λ it. it.1 < limit)
  kept_below None = tt
  kept_below (Some it) =
      cond_both (ltb (counted_with updates it).1 limit) (Some (counted_with updates it)) None (λ o. IfSome o (λ x. x.1 < limit))
      (λ below. ltb-true _ _ below) (λ _. tt)
