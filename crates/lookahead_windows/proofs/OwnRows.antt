-- Rows in the order of their places, the events that a part's window handles, and what is kept of two orders of the same rows.
use Rattle.std.proofs.Common.{◌≡◌, ℕ, ◌<◌, ◌≤◌, Bool, true, false, cond, List, [], ◌∷◌, ap, inl, inr, ◌∙◌, sym, refl, arith}
use Rattle.std.specs.List.{AllByRecursion, filter, sum_by}
use Rattle.std.specs.List.Sorted.{IsPermutation}
use Rattle.std.specs.Ordering.{nat_cmp, ordering_then, is_lt}
use Rattle.std.specs.Cmp.{IsTotalOrder, nat_cmp_total, on_total, then_total, nat_cmp_is, tied_itself}
use Rattle.std.specs.declared.cmp.Ordering.{Ordering}
use Rattle.std.specs.declared.cmp.Ordering.TheVariants.{Less, Equal}
use Rattle.std.proofs.lemmas.List.Elements.{recursion_from_All, All-from_recursion}
use Rattle.std.proofs.lemmas.List.Sums.{sum_by-cons}
use Rattle.std.proofs.lemmas.List.Sorted.{All-permutation, sum_by-IsPermutation, IsPermutation-sym}
use Rattle.base.specs.declared.key.Key.{Key}
use Rattle.base.specs.Order.{key_cmp, key_total}
use Rattle.base.specs.Rising.{IsRising, IsPlaceBefore}
use Rattle.base.proofs.Rising.{all_weaker}
use Rattle.scenario.specs.Setup.{Setup, IsSound}
use Rattle.trace.specs.declared.row.Row.{Row}
use Rattle.member.specs.declared.event_kind.EventKind.{EventKind}
use Rattle.member.specs.Places.{place_of}
use Rattle.member.specs.Step.{step}
use Rattle.member_laws.specs.Runs.{Cluster}
use Rattle.windows.specs.Parts.{PartRun}
use Rattle.windows.specs.Cluster.{IsRowOrder, link_delay}
use Rattle.windows.proofs.Cuts.{all_kept}
use Rattle.windows.proofs.Members.{keeps_delays}
use Rattle.windows.proofs.Numbers.{rising_kept}
use Rattle.windows.proofs.Outs.{IsFrom, from_after, handled_from}
use Rattle.windows.proofs.Sorting.{IsAtMost, IsLess, by_turn, Tells, tells_itself, same_order}

-- ---- an order of rows by their places alone

pub by_places : Row → Row → Ordering
by_places a b = ordering_then (key_cmp (place_of a).0 (place_of b).0) (nat_cmp (place_of a).1 (place_of b).1)

by_places_agrees : (a b : Row) → IsPlaceBefore (place_of a) (place_of b) → by_places a b ≡ Less
unfolding by_places
by_places_agrees a b (inl before) = ap (λ o. ordering_then o (nat_cmp (place_of a).1 (place_of b).1)) before
by_places_agrees a b (inr same) =
    ap (λ o. ordering_then o (nat_cmp (place_of a).1 (place_of b).1)) (ap (λ k. key_cmp k (place_of b).0) same.0 ∙ tied_itself key_total (place_of b).0)
    ∙ sym (nat_cmp_is (place_of a).1 (place_of b).1 Less same.1)

pub places_order : IsRowOrder by_places
unfolding by_places
places_order = record {
  total = then_total (on_total (λ (row : Row). (place_of row).0) key_total) (on_total (λ (row : Row). (place_of row).1) nat_cmp_total);
  agrees = by_places_agrees;
}

pub less_at_most : (a b : Row) → IsPlaceBefore (place_of a) (place_of b) → IsAtMost by_places a b
less_at_most a b before = ap is_lt (by_turn by_places places_order.total a b Less (places_order.agrees a b before))

-- ---- a window of a part

module _ (s : Setup) (sound : IsSound s) (owns : ℕ → Bool) (bound : ℕ) where
  -- it handles events for its own members, no earlier than what pends, and before the bound
  pub own_keys : (from : ℕ) (ks : List Key) (p v : Cluster) (out : List (Key × EventKind)) (rows : List Row) → IsFrom (link_delay s) (step s) (keeps_delays s sound) owns bound from p
      → PartRun (step s) owns bound p ks out rows v → AllByRecursion (λ (k : Key). (owns k.to ≡ true) × (from ≤ k.at) × (k.at < bound)) ks
  own_keys from [] p v out rows all run = tt
  own_keys from (k ∷ ks) p v out rows all run =
      let handled = handled_from (link_delay s) (step s) (keeps_delays s sound) owns bound from p run.0 k run.1 run.3 all run.5 in
      ((handled.0, handled.1, run.5.early), own_keys from ks run.0 v run.2 run.4 (from_after (link_delay s) (step s) (keeps_delays s sound) owns bound from p run.0 k run.1 run.3 all run.5) run.6)

-- ---- what is kept of a list

module _ {A : Type 0} (p : A → Bool) where
  sum_kept : (f : A → ℕ) (xs : List A) → sum_by f (filter p xs) ≡ sum_by (λ x. cond (p x) (f x) 0) xs
  sum_kept f [] = refl
  sum_kept f (x ∷ xs) = either (p x) refl (sum_kept f xs)
    where
      either : (b : Bool) → p x ≡ b → sum_by f (filter p xs) ≡ sum_by (λ x. cond (p x) (f x) 0) xs → sum_by f (cond b (x ∷ filter p xs) (filter p xs)) ≡ sum_by (λ x. cond (p x) (f x) 0) (x ∷ xs)
      either true e rest =
          let one = sum_by-cons f x (filter p xs) in
          let all = sum_by-cons (λ x. cond (p x) (f x) 0) x xs in
          let here : cond (p x) (f x) 0 ≡ f x = ap (λ b. cond b (f x) 0) e in
          omega arith
      either false e rest =
          let all = sum_by-cons (λ x. cond (p x) (f x) 0) x xs in
          let here : ◌≡◌ {A = ℕ} (cond (p x) (f x) 0) 0 = ap (λ b. cond b (f x) 0) e in
          omega arith

  -- Of two orders of the same items, of which the one rises strictly: what is kept of the other, where it rises, is what is kept of the one.
  pub kept_same : (cmp : A → A → Ordering) (total : IsTotalOrder cmp) (xs ys : List A) → IsRising (IsLess cmp) xs → IsPermutation ys xs → IsRising (IsAtMost cmp) (filter p ys) → filter p ys ≡ filter p xs
  kept_same cmp total xs ys strict items up =
      same_order cmp total (filter p xs) (filter p ys) (rising_kept (IsLess cmp) p xs strict) up
      (λ f. sum_kept f ys ∙ sym (sum_by-IsPermutation (λ x. cond (p x) (f x) 0) ys xs items) ∙ sym (sum_kept f xs))
      (all_weaker _ (Tells cmp total (filter p xs))
      (λ y h. all_weaker _ (λ x. cmp y x ≡ Equal → y ≡ x) (λ x g. g.1) (filter p xs) (all_kept p (λ x. cmp y x ≡ Equal → y ≡ x) xs h.1))
      (filter p ys)
      (all_kept p (Tells cmp total xs) ys
      (recursion_from_All (Tells cmp total xs) ys (All-permutation (Tells cmp total xs) xs ys (IsPermutation-sym ys xs items) (All-from_recursion (Tells cmp total xs) xs (tells_itself cmp total xs strict))))))
