-- The events that went out of windows, all together, are new where they come.
use Rattle.std.proofs.Common.{◌≡◌, ◌≢◌, ◌⊎◌, ℕ, ◌<◌, ◌≤◌, Bool, true, false, cond, List, [], ◌∷◌, length, Option, Some, None, ap, ◌∙◌, sym, subst, refl, arith, inl, inr}
use Rattle.std.specs.Option.{is_some}
use Rattle.std.specs.List.{AllByRecursion, filter}
use Rattle.std.specs.Cmp.{nat_cmp_total}
use Rattle.std.specs.FinMap.{get, contains_key, nat_cmp-IsAntisymmetric}
use Rattle.std.proofs.lemmas.Option.{same_Some}
use Rattle.std.proofs.lemmas.Bool.{false≢true, eqb-true, eq-eqb, false_from_ne_true}
use Rattle.base.specs.declared.key.Key.{Key}
use Rattle.base.specs.Order.{key_total, key_exact}
use Rattle.base.specs.World.{Machine, World, IsPending}
use Rattle.base.specs.Rising.{IsRising, UsesNumbers, IsNumbered, AreNew}
use Rattle.base.proofs.Rising.{all_append, all_weaker, rising_append}
use Rattle.windows.specs.Delays.{KeepsDelays}
use Rattle.windows.specs.Parts.{part_of, for_own, is_in, Window, IsWindowOfItsPart, AreWindowsOfDifferentParts, all_out}
use Rattle.windows.proofs.Cuts.{get_retained, all_kept}
use Rattle.windows.proofs.Numbers.{rising_kept}
use Rattle.windows.proofs.Far.{all_both}
use Rattle.windows.proofs.Windows.{kept_value}
use Rattle.windows.proofs.Division.{own_of_run}
use Rattle.windows.proofs.Outs.{IsFrom}
use Rattle.windows.proofs.Fresh.{IsUnused, out_unused, out_apart, came_from}

kept_there : {X : Type 0} (o : Option X) (b : Bool) → is_some (cond b o None) ≡ true → (b ≡ true) × (is_some o ≡ true)
kept_there o true here = (refl, here)
kept_there o false here = absurd (false≢true here)

module _ {A : Type 0} (test : A → Bool) where
  none_either : (x : A) (xs : List A) (b : Bool) → test x ≡ b → cond b (x ∷ filter test xs) (filter test xs) ≡ [] → (filter test xs ≡ [] → AllByRecursion (λ y. test y ≡ false) xs)
      → (test x ≡ false) × AllByRecursion (λ y. test y ≡ false) xs
  none_either x xs true e none rest = let n : length (x ∷ filter test xs) ≡ 0 = ap length none in absurd (omega arith)
  none_either x xs false e none rest = (e, rest none)

  -- where nothing is kept, nothing passes
  none_passes : (xs : List A) → filter test xs ≡ [] → AllByRecursion (λ x. test x ≡ false) xs
  none_passes [] none = tt
  none_passes (x ∷ xs) none = none_either x xs (test x) refl none (none_passes xs)

module _ {S C R : Type 0} (delay : ℕ → ℕ → ℕ) (step : Machine S C R) (keeps : KeepsDelays delay step) (next : S → ℕ) (numbers : UsesNumbers next step) (division bounds : ℕ → ℕ) (w : World S C)
    (numbered : IsNumbered next w) where
  pend_in : (part : ℕ) (q : Key) → IsPending (part_of (is_in division part) w) q → (is_in division part q.to ≡ true) × IsPending w q
  pend_in part q here =
      kept_there (get w.pending q) (is_in division part q.to) (sym (ap is_some (get_retained key_total key_exact (λ r. is_in division part r.to) w.pending q)) ∙ here)

  own_part : (d : Window S C R) → IsFrom delay step keeps (is_in division d.part) (bounds d.part) 0 (part_of (is_in division d.part) w)
  own_part d q here = ((pend_in d.part q here).0, omega arith)

  -- an event that goes to another part than its maker's, by a number that the maker had not used
  Goes : Key → Type 0
  Goes e = (division e.to ≢ division e.from) × ((s : S) × (get w.members e.from ≡ Some s) × (next s ≤ e.number))

  goes_one : (d : Window S C R) (e : Key) → is_in division d.part e.to ≡ false → IsUnused delay step keeps next numbers (is_in division d.part) (bounds d.part) (part_of (is_in division d.part) w) e
      → (division e.from ≡ d.part) × Goes e
  unfolding Goes
  goes_one d e out unused =
      let home : division e.from ≡ d.part = eqb-true (division e.from) d.part unused.0 in
      let there = kept_value (get w.members e.from) unused.1.0 (is_in division d.part e.from) (is_in division d.part e.from) refl
      (sym (get_retained nat_cmp_total nat_cmp-IsAntisymmetric (is_in division d.part) w.members e.from) ∙ unused.1.1) in
      (home, (λ same. false≢true (sym out ∙ eq-eqb (division e.to) d.part (same ∙ home)), (unused.1.0, there.1, unused.1.2)))

  goes_window : (d : Window S C R) → IsWindowOfItsPart step division bounds w d → AllByRecursion (λ e. (division e.0.from ≡ d.part) × Goes e.0) d.out
  goes_window d window =
      all_weaker _ (λ e. (division e.0.from ≡ d.part) × Goes e.0) (λ e h. goes_one d e.0 h.0 h.1) d.out
      (all_both (λ e. is_in division d.part e.0.to ≡ false) (λ e. IsUnused delay step keeps next numbers (is_in division d.part) (bounds d.part) (part_of (is_in division d.part) w) e.0) d.out
      (none_passes (λ e. is_in division d.part e.0.to) d.out (own_of_run step (is_in division d.part) (bounds d.part) d.keys (part_of (is_in division d.part) w) d.after d.out d.rows window.run))
      (out_unused delay step keeps next numbers (is_in division d.part) (bounds d.part) d.keys (part_of (is_in division d.part) w) d.after d.out d.rows (own_part d) window.run))

  all_go : (ds : List (Window S C R)) → AllByRecursion (IsWindowOfItsPart step division bounds w) ds → AllByRecursion (λ e. Goes e.0) (all_out ds)
  all_go [] windows = tt
  all_go (d ∷ ds) windows = all_append _ d.out (all_out ds) (all_weaker _ (λ e. Goes e.0) (λ e h. h.1) d.out (goes_window d windows.0)) (all_go ds windows.1)

  from_others : (part : ℕ) (ds : List (Window S C R)) → AllByRecursion (IsWindowOfItsPart step division bounds w) ds → AllByRecursion (λ d. part ≢ d.part) ds → AllByRecursion (λ e. division e.0.from ≢ part) (all_out ds)
  from_others part [] windows others = tt
  from_others part (d ∷ ds) windows others =
      all_append _ d.out (all_out ds) (all_weaker _ (λ e. division e.0.from ≢ part) (λ e h same. others.0 (sym same ∙ h.0)) d.out (goes_window d windows.0)) (from_others part ds windows.1 others.1)

  all_apart : (ds : List (Window S C R)) → AllByRecursion (IsWindowOfItsPart step division bounds w) ds → IsRising (λ d e. d.part ≢ e.part) ds → IsRising (λ e f. e.0 ≢ f.0) (all_out ds)
  all_apart [] windows different = tt
  all_apart (d ∷ ds) windows different =
      rising_append (λ e f. e.0 ≢ f.0) d.out (all_out ds)
      (out_apart delay step keeps next numbers (is_in division d.part) (bounds d.part) d.keys (part_of (is_in division d.part) w) d.after d.out d.rows (own_part d) windows.0.run)
      (all_apart ds windows.1 different.1)
      (all_weaker _ (λ e. AllByRecursion (λ f. e.0 ≢ f.0) (all_out ds))
      (λ e h. all_weaker _ (λ f. e.0 ≢ f.0) (λ f other same. other (ap (λ (q : Key). division q.from) (sym same) ∙ h.0)) (all_out ds) (from_others d.part ds windows.1 different.0))
      d.out (goes_window d windows.0))

  module _ (ds : List (Window S C R)) (are : AreWindowsOfDifferentParts step division bounds w ds) (part : ℕ) (p : World S C)
      (came : (q : Key) → IsPending p q → IsPending (part_of (is_in division part) w) q ⊎ (is_in division part q.from ≡ true)) where
    not_there : (e : Key) → is_in division part e.to ≡ true → Goes e → IsPending (part_of (is_in division part) w) e ⊎ (is_in division part e.from ≡ true) → ⊥
    unfolding Goes
    not_there e here goes (inl old) =
        let used = numbered e (pend_in part e old).1 in
        let same : used.0 ≡ goes.1.0 = same_Some used.0 goes.1.0 (sym used.1 ∙ goes.1.1) in
        let low : e.number < next goes.1.0 = subst (λ t. e.number < next t) same used.2 in
        let high = goes.1.2 in
        omega arith
    not_there e here goes (inr own) = goes.0 (eqb-true (division e.to) part here ∙ sym (eqb-true (division e.from) part own))

    -- all that went out is new in a part, whatever of its own it has gained
    new_there : AreNew p.pending (for_own (is_in division part) (all_out ds))
    new_there = record {
      unlike_pending =
          all_weaker _ (λ e. contains_key p.pending e.0 ≡ false) (λ e h. false_from_ne_true (contains_key p.pending e.0) (λ there. not_there e.0 h.0 h.1 (came e.0 there)))
          (for_own (is_in division part) (all_out ds)) (all_kept (λ e. is_in division part e.0.to) (λ e. Goes e.0) (all_out ds) (all_go ds are.windows));
      unlike_each_other = rising_kept (λ e f. e.0 ≢ f.0) (λ e. is_in division part e.0.to) (all_out ds) (all_apart ds are.windows are.different);
    }

  each_new : (ds es : List (Window S C R)) → AreWindowsOfDifferentParts step division bounds w ds → AllByRecursion (IsWindowOfItsPart step division bounds w) es
      → AllByRecursion (λ d. AreNew d.after.pending (for_own (is_in division d.part) (all_out ds))) es
  each_new ds es are windows =
      all_weaker _ (λ d. AreNew d.after.pending (for_own (is_in division d.part) (all_out ds)))
      (λ d window. new_there ds are d.part d.after
      (came_from delay step keeps next numbers (is_in division d.part) (bounds d.part) d.keys (part_of (is_in division d.part) w) d.after d.out d.rows (own_part d) window.run))
      es windows

  -- what went out of all windows is new in each part after its window
  pub all_new : (ds : List (Window S C R)) → AreWindowsOfDifferentParts step division bounds w ds → AllByRecursion (λ d. AreNew d.after.pending (for_own (is_in division d.part) (all_out ds))) ds
  all_new ds are = each_new ds ds are are.windows
