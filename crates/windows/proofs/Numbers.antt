-- No event made takes the place of another, also where events are handled before their turn or by parts.
use Rattle.std.proofs.Common.{◌≡◌, ◌≢◌, ℕ, Bool, true, false, cond, List, [], ◌∷◌, None, ap, ◌∙◌, sym, subst, refl}
use Rattle.std.specs.Option.{is_some}
use Rattle.std.specs.List.{AllByRecursion, filter}
use Rattle.std.specs.FinMap.{FinMap, get, contains_key, remove}
use Rattle.base.specs.declared.key.Key.{Key}
use Rattle.base.specs.Order.{key_cmp, key_total, key_exact}
use Rattle.base.specs.World.{Machine, World}
use Rattle.base.specs.Rising.{IsRising, UsesNumbers, IsNumbered, AreNew}
use Rattle.base.proofs.Rising.{all_weaker, numbered_settled}
use Rattle.windows.specs.Schedule.{Schedule}
use Rattle.windows.specs.Parts.{part_of, for_own}
use Rattle.windows.proofs.Cuts.{get_retained, retain_remove, all_kept}

module _ {S C R : Type 0} (next : S → ℕ) (step : Machine S C R) (numbers : UsesNumbers next step) where
  -- after a schedule too each pending event has a number that its sender has used
  pub numbered_schedule : (Test : World S C → Key → Type 0) (ks : List Key) (w v : World S C) (rows : List R) → IsNumbered next w → Schedule step Test w ks rows v → IsNumbered next v
  numbered_schedule Test [] w v rows all is = subst (IsNumbered next) (sym is.0) all
  numbered_schedule Test (k ∷ ks) w v rows all is =
      numbered_schedule Test ks is.0 v is.2 (subst (IsNumbered next) (sym is.3.world) (numbered_settled next step numbers w k is.3.content (get w.members k.to) refl all)) is.4

module _ {A : Type 0} (before : A → A → Type 0) (test : A → Bool) where
  rising_either : (x : A) (xs : List A) (b : Bool) → AllByRecursion (before x) (filter test xs) → IsRising before (filter test xs) → IsRising before (cond b (x ∷ filter test xs) (filter test xs))
  rising_either x xs true first rest = (first, rest)
  rising_either x xs false first rest = rest

  -- what is kept of a list stands in the list's order
  pub rising_kept : (xs : List A) → IsRising before xs → IsRising before (filter test xs)
  rising_kept [] up = tt
  rising_kept (x ∷ xs) up =
      rising_either x xs (test x) (all_weaker _ (before x) (λ y h. h.1) (filter test xs) (all_kept test (before x) xs up.0)) (rising_kept xs up.1)

not_kept : {C : Type 0} (pending : FinMap key_cmp C) (own : Key → Bool) (q : Key) (b : Bool) → own q ≡ b → contains_key pending q ≡ false → is_some (cond b (get pending q) None) ≡ false
not_kept pending own q true e none = none
not_kept pending own q false e none = refl

module _ {S C : Type 0} (owns : ℕ → Bool) where
  none_in_part : (u p : World S C) (k q : Key) → part_of owns u ≡ p → owns k.to ≡ true → contains_key (remove u.pending k) q ≡ false → contains_key (remove p.pending k) q ≡ false
  none_in_part u p k q cut mine none =
      ap (λ (x : World S C). contains_key (remove x.pending k) q) (sym cut)
      ∙ ap (λ m. contains_key m q) (sym (retain_remove key_total key_exact (λ r. owns r.to) u.pending k mine))
      ∙ ap is_some (get_retained key_total key_exact (λ r. owns r.to) (remove u.pending k) q)
      ∙ not_kept (remove u.pending k) (λ r. owns r.to) q (owns q.to) refl none

  -- the events that a step makes for its own part are new in the part
  pub new_in_part : (u p : World S C) (k : Key) (events : List (Key × C)) → part_of owns u ≡ p → owns k.to ≡ true → AreNew (remove u.pending k) events → AreNew (remove p.pending k) (for_own owns events)
  new_in_part u p k events cut mine new = record {
    unlike_pending =
        all_weaker _ (λ e. contains_key (remove p.pending k) e.0 ≡ false) (λ e h. none_in_part u p k e.0 cut mine h.1) (for_own owns events)
        (all_kept (λ e. owns e.0.to) (λ e. contains_key (remove u.pending k) e.0 ≡ false) events new.unlike_pending);
    unlike_each_other = rising_kept (λ e f. e.0 ≢ f.0) (λ e. owns e.0.to) events new.unlike_each_other;
  }

pub rising_weaker : {A : Type 0} (P Q : A → A → Type 0) → ((a b : A) → P a b → Q a b) → (xs : List A) → IsRising P xs → IsRising Q xs
rising_weaker P Q gives [] up = tt
rising_weaker P Q gives (x ∷ xs) up = (all_weaker (P x) (Q x) (gives x) xs up.0, rising_weaker P Q gives xs up.1)
