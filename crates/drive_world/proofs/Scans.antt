-- The keys of the events that pend, in their order, of which the first is looked for whose member has none that waits.
use Rattle.std.proofs.Common.{◌≡◌, ◌⊎◌, ℕ, ◌<◌, ◌≤◌, Bool, true, false, ◌||◌, List, [], ◌∷◌, All, ap, ◌∙◌, sym, subst, refl, inl, inr, arith}
use Rattle.std.specs.Option.{is_some, IsSome}
use Rattle.std.specs.List.{AllByRecursion, list_any}
use Rattle.std.specs.List.Sorted.{IsStrictlySortedBy}
use Rattle.std.specs.Ordering.{eq_by_cmp}
use Rattle.std.specs.Cmp.{tied_itself}
use Rattle.std.specs.FinMap.{FinMap, from_entries, contains_key}
use Rattle.std.specs.Map.{keys_of}
use Rattle.std.proofs.lemmas.Bool.{false≢true}
use Rattle.std.proofs.lemmas.List.Elements.{recursion_from_All}
use Rattle.base.specs.declared.key.Key.{Key}
use Rattle.base.specs.Order.{key_cmp, key_total, moments-from_not_before, IsBefore}
use Rattle.base.specs.Run.{tells}
use Rattle.base.proofs.Rising.{all_weaker}
use Rattle.base.proofs.Trees.{found, get-entries}
use Rattle.drive_events.specs.declared.content.Content.{Content}
use Rattle.drive_world.specs.Next.{has_one_for, IsFreeBelow, IsFirstFree}

-- whether the list has the key
abbrev pub has : List Key → Key → Bool
has ks q = list_any (eq_by_cmp key_cmp q) ks

one_of : (q k : Key) (ks : List Key) → has (k ∷ ks) q ≡ true → (q ≡ k) ⊎ (has ks q ≡ true)
one_of q k ks among = either (eq_by_cmp key_cmp q k) refl
  where
    either : (b : Bool) → eq_by_cmp key_cmp q k ≡ b → (q ≡ k) ⊎ (has ks q ≡ true)
    either true same = inl (tells q k same)
    either false other = inr (ap (λ b. b || has ks q) (sym other) ∙ among)

before_itself : (k : Key) → ¬ (IsBefore k k)
before_itself k before = cc (tied_itself key_total k)

after_either : (k q l : Key) (ks : List Key) → IsBefore k l → (has ks q ≡ true → IsBefore k q) → (q ≡ l) ⊎ (has ks q ≡ true) → IsBefore k q
after_either k q l ks first others (inl same) = subst (IsBefore k) (sym same) first
after_either k q l ks first others (inr among) = others among

after_first : (k q : Key) (ks : List Key) → AllByRecursion (λ l. IsBefore k l) ks → has ks q ≡ true → IsBefore k q
after_first k q [] later among = absurd (false≢true among)
after_first k q (l ∷ ks) later among = after_either k q l ks later.0 (after_first k q ks later.1) (one_of q l ks among)

-- the first of rising keys has none of them before it
first_least : (k q : Key) (ks : List Key) → IsStrictlySortedBy key_cmp (k ∷ ks) → has (k ∷ ks) q ≡ true → ¬ (IsBefore q k)
unfolding IsStrictlySortedBy
first_least k q ks sorted among before = either (one_of q k ks among)
  where
    either : (q ≡ k) ⊎ (has ks q ≡ true) → ⊥
    either (inl same) = before_itself k (subst (λ r. IsBefore r k) same before)
    either (inr among) = cc (after_first k q ks sorted.0 among, key_total.antisymm q k, before)

rest_sorted : (k : Key) (ks : List Key) → IsStrictlySortedBy key_cmp (k ∷ ks) → IsStrictlySortedBy key_cmp ks
unfolding IsStrictlySortedBy
rest_sorted k ks sorted = sorted.1

-- these keys of the set, which rise, have all among them whose members have none that waits
pub record AreLeft (events : FinMap key_cmp Content) (waiting left : List Key) : Type 0 where
  pub rising : IsStrictlySortedBy key_cmp left
  pub here : AllByRecursion (λ k. contains_key events k ≡ true) left
  pub all : (q : Key) → contains_key events q ≡ true → has_one_for q.to waiting ≡ false → has left q ≡ true

-- at first all keys of the set
pub all_left : (es : List (Key × Content)) (waiting left : List Key) → left ≡ keys_of es → IsStrictlySortedBy key_cmp (keys_of es) → All (λ k. IsSome (found key_cmp es k)) (keys_of es)
    → ((q : Key) → is_some (found key_cmp es q) ≡ has (keys_of es) q) → AreLeft (from_entries es) waiting left
all_left es waiting left is sorted here all = subst (AreLeft (from_entries es) waiting) (sym is) (record {
  rising = sorted;
  here = all_weaker _ (λ k. contains_key (from_entries {R = key_cmp} es) k ≡ true) (λ k there. ap is_some (get-entries key_total es k) ∙ there) (keys_of es) (recursion_from_All (λ k. IsSome (found key_cmp es k)) (keys_of es) here);
  all = λ q there own. sym (all q) ∙ ap is_some (sym (get-entries key_total es q)) ∙ there;
})

module _ (events : FinMap key_cmp Content) (waiting left rest : List Key) (k : Key) (is : left ≡ k ∷ rest) (are : AreLeft events waiting left) where
  there : AreLeft events waiting (k ∷ rest)
  there = subst (AreLeft events waiting) is are

  -- the first is for a member that has one that waits
  pub left_after : has_one_for k.to waiting ≡ true → AreLeft events waiting rest
  left_after busy = record {
    rising = rest_sorted k rest there.rising;
    here = there.here.1;
    all = λ q here own. either q own (one_of q k rest (there.all q here own));
  }
    where
      either : (q : Key) → has_one_for q.to waiting ≡ false → (q ≡ k) ⊎ (has rest q ≡ true) → has rest q ≡ true
      either q own (inl same) = absurd (false≢true (sym own ∙ ap (λ (r : Key). has_one_for r.to waiting) same ∙ busy))
      either q own (inr among) = among

  -- the first is free
  pub found_free : (bound : ℕ) → k.at < bound → has_one_for k.to waiting ≡ false → IsFirstFree bound events waiting k
  found_free bound low free = record {
    is = record { here = there.here.0; below = low; free = free };
    least = λ q other. first_least k q rest there.rising (there.all q other.here other.free);
  }

  -- the first isn't below the bound
  pub none_below : (bound : ℕ) → bound ≤ k.at → (q : Key) → ¬ (IsFreeBelow bound events waiting q)
  none_below bound late q other =
      let after = moments-from_not_before q k (first_least k q rest there.rising (there.all q other.here other.free)) in
      let low = other.below in omega arith

-- none are left
pub none_left : (events : FinMap key_cmp Content) (waiting : List Key) (bound : ℕ) (left : List Key) → left ≡ [] → AreLeft events waiting left → (q : Key) → ¬ (IsFreeBelow bound events waiting q)
none_left events waiting bound left none are q other = false≢true (ap (λ ks. has ks q) (sym none) ∙ are.all q other.here other.free)
