-- The keys of a set, in their order, of which those of one receiver are looked for.
use Rattle.std.proofs.Common.{◌≡◌, ◌⊎◌, ℕ, ◌≤◌, Bool, true, false, ◌||◌, List, [], ◌∷◌, Option, Some, None, IfSome, All, ap, ◌∙◌, sym, subst, refl, inl, inr, arith}
use Rattle.std.specs.Option.{is_some, IsSome, IfNone}
use Rattle.std.specs.List.{AllByRecursion, list_any}
use Rattle.std.specs.List.Sorted.{IsStrictlySortedBy}
use Rattle.std.specs.Ordering.{eq_by_cmp}
use Rattle.std.specs.Cmp.{tied_itself}
use Rattle.std.specs.FinMap.{FinMap, from_entries, contains_key}
use Rattle.std.specs.BTreeMap.{BTreeMap}
use Rattle.std.specs.Map.{keys_of}
use Rattle.std.proofs.lemmas.Bool.{false≢true}
use Rattle.std.proofs.lemmas.List.Elements.{recursion_from_All}
use Rattle.base.specs.declared.key.Key.{Key}
use Rattle.base.specs.Order.{key_cmp, key_total, moments-from_not_before, IsBefore}
use Rattle.base.specs.Run.{tells}
use Rattle.base.proofs.Rising.{all_weaker}
use Rattle.base.proofs.Trees.{found, get-entries}
use Rattle.worker_queue.specs.Queue.{IsLeastKeyFor, NoneIsBelowFor}
use Rattle.worker_queue.specs.Tree.{IsKeyed}

-- whether the list has the key
abbrev has : List Key → Key → Bool
has ks q = list_any (eq_by_cmp key_cmp q) ks

one_of : (q k : Key) (ks : List Key) → has (k ∷ ks) q ≡ true → (q ≡ k) ⊎ (has ks q ≡ true)
one_of q k ks among = either (eq_by_cmp key_cmp q k) refl
  where
    either : (b : Bool) → eq_by_cmp key_cmp q k ≡ b → (q ≡ k) ⊎ (has ks q ≡ true)
    either true same = inl (tells q k same)
    either false other = inr (ap (λ b. b || has ks q) (sym other) ∙ among)

before_itself : (k : Key) → ¬ (IsBefore k k)
before_itself k before = cc (tied_itself key_total k)

after_either : (k q l : Key) (ks : List Key) → IsBefore k l → (has ks q ≡ true → IsBefore k q) → (q ≡ l) ⊎ (has ks q ≡ true) → IsBefore k q
after_either k q l ks first others (inl same) = subst (IsBefore k) (sym same) first
after_either k q l ks first others (inr among) = others among

after_first : (k q : Key) (ks : List Key) → AllByRecursion (λ l. IsBefore k l) ks → has ks q ≡ true → IsBefore k q
after_first k q [] later among = absurd (false≢true among)
after_first k q (l ∷ ks) later among = after_either k q l ks later.0 (after_first k q ks later.1) (one_of q l ks among)

-- the first of rising keys has none of them before it
first_least : (k q : Key) (ks : List Key) → IsStrictlySortedBy key_cmp (k ∷ ks) → has (k ∷ ks) q ≡ true → ¬ (IsBefore q k)
unfolding IsStrictlySortedBy
first_least k q ks sorted among before = either (one_of q k ks among)
  where
    either : (q ≡ k) ⊎ (has ks q ≡ true) → ⊥
    either (inl same) = before_itself k (subst (λ r. IsBefore r k) same before)
    either (inr among) = cc (after_first k q ks sorted.0 among, key_total.antisymm q k, before)

rest_sorted : (k : Key) (ks : List Key) → IsStrictlySortedBy key_cmp (k ∷ ks) → IsStrictlySortedBy key_cmp ks
unfolding IsStrictlySortedBy
rest_sorted k ks sorted = sorted.1

module _ {E : Type 0} where
  -- these keys of the set, which rise, have all of this receiver among them
  pub record AreLeftFor (events : FinMap key_cmp E) (receiver : ℕ) (left : List Key) : Type 0 where
    pub rising : IsStrictlySortedBy key_cmp left
    pub here : AllByRecursion (λ k. contains_key events k ≡ true) left
    pub all : (q : Key) → contains_key events q ≡ true → q.to ≡ receiver → has left q ≡ true

  -- at first all keys of the set
  pub all_left : (es : List (Key × E)) (receiver : ℕ) (left : List Key) → left ≡ keys_of es → IsStrictlySortedBy key_cmp (keys_of es) → All (λ k. IsSome (found key_cmp es k)) (keys_of es)
      → ((q : Key) → is_some (found key_cmp es q) ≡ has (keys_of es) q) → AreLeftFor (from_entries es) receiver left
  all_left es receiver left is sorted here all = subst (AreLeftFor (from_entries es) receiver) (sym is) (record {
    rising = sorted;
    here = all_weaker _ (λ k. contains_key (from_entries {R = key_cmp} es) k ≡ true) (λ k there. ap is_some (get-entries key_total es k) ∙ there) (keys_of es) (recursion_from_All (λ k. IsSome (found key_cmp es k)) (keys_of es) here);
    all = λ q there own. sym (all q) ∙ ap is_some (sym (get-entries key_total es q)) ∙ there;
  })

  module _ (events : FinMap key_cmp E) (receiver : ℕ) (left rest : List Key) (k : Key) (is : left ≡ k ∷ rest) (are : AreLeftFor events receiver left) where
    there : AreLeftFor events receiver (k ∷ rest)
    there = subst (AreLeftFor events receiver) is are

    -- the first is for another receiver
    pub left_after : ¬ (k.to ≡ receiver) → AreLeftFor events receiver rest
    left_after other = record {
      rising = rest_sorted k rest there.rising;
      here = there.here.1;
      all = λ q here own. either q own (one_of q k rest (there.all q here own));
    }
      where
        either : (q : Key) → q.to ≡ receiver → (q ≡ k) ⊎ (has rest q ≡ true) → has rest q ≡ true
        either q own (inl same) = absurd (other (ap (λ (r : Key). r.to) (sym same) ∙ own))
        either q own (inr among) = among

    -- the first is for this receiver
    pub found_for : k.to ≡ receiver → IsLeastKeyFor events receiver k
    found_for own = record { here = there.here.0; own = own; least = λ q here its. first_least k q rest there.rising (there.all q here its) }

    -- the first isn't below the bound
    pub none_before_bound : (bound : ℕ) → bound ≤ k.at → NoneIsBelowFor events receiver bound
    none_before_bound bound late q here own =
        let after = moments-from_not_before q k (first_least k q rest there.rising (there.all q here own)) in omega arith

  -- none are left
  pub none_left_for : (events : FinMap key_cmp E) (receiver bound : ℕ) (left : List Key) → left ≡ [] → AreLeftFor events receiver left → NoneIsBelowFor events receiver bound
  none_left_for events receiver bound left none are q here own = absurd (false≢true (ap (λ ks. has ks q) (sym none) ∙ are.all q here own))

  -- what was taken at a key stands there under its own
  module _ (key : E → Key) (tree : BTreeMap Key E) (keyed : IsKeyed key tree) (k : Key) where
    pub by_own : (P : Key → E → Type 0) (taken : Option E) → taken ≡ found key_cmp tree.entries k → ((event : E) → found key_cmp tree.entries k ≡ Some event → P k event) → IfSome taken (λ event. P (key event) event)
    by_own P None is holds = tt
    by_own P (Some event) is holds = subst (λ q. P q event) (sym (keyed k event (sym is))) (holds event (sym is))

    -- and there is something
    pub never_none : (P : Type 0) (taken : Option E) → taken ≡ found key_cmp tree.entries k → contains_key (from_entries {R = key_cmp} tree.entries) k ≡ true → IfNone taken P
    never_none P (Some event) is here = tt
    never_none P None is here = absurd (false≢true (ap is_some is ∙ ap is_some (sym (get-entries key_total tree.entries k)) ∙ here))
