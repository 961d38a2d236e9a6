-- A `BTreeMap` as a finite map, where only equal keys tie.
use Rattle.std.proofs.Common.{◌≡◌, true, false, cond, List, [], ◌∷◌, Option, Some, None, ap, ◌∙◌, sym, refl}
use Rattle.std.specs.Option.{is_some, IsSome}
use Rattle.std.specs.Ordering.{eq_by_cmp, is_gt, ordering_reverse}
use Rattle.std.specs.Cmp.{IsTotalOrder, eq_by_cmp_equiv}
use Rattle.std.specs.FinMap.{IsAntisymmetric, from_entries, get, contains_key, insert, remove, find, get-from_entries, get-insert, get-remove, same_map}
use Rattle.std.specs.Map.{lookup}
use Rattle.std.specs.BTreeMap.{is_at}
use Rattle.std.proofs.lemmas.Bool.{false≢true}
use Rattle.std.specs.declared.cmp.Ordering.{Ordering}
use Rattle.std.specs.declared.cmp.Ordering.TheVariants.{Less}

-- what a scan of the entries finds
abbrev pub found : {K X : Type 0} → (K → K → Ordering) → List (K × X) → K → Option X
found R es q = lookup (is_at (R q)) es

find-entries : {K X : Type 0} (R : K → K → Ordering) (es : List (K × X)) (q : K) → find R q es ≡ found R es q
find-entries R [] q = refl
find-entries R (e ∷ es) q = ap (cond (eq_by_cmp R q e.0) (Some e.1)) (find-entries R es q)

module _ {K X : Type 0} {R : K → K → Ordering} where
  module _ (total : IsTotalOrder R) where
    pub get-entries : (es : List (K × X)) (q : K) → get (from_entries {R = R} es) q ≡ found R es q
    get-entries es q = get-from_entries total es q ∙ find-entries R es q

    module _ (exact : IsAntisymmetric R) where
      -- entries that differ at one key make maps that differ there
      pub map-insert : (es fs : List (K × X)) (k : K) (v : X) → ((q : K) → found R fs q ≡ cond (is_at (R k) q) (Some v) (found R es q))
          → from_entries {R = R} fs ≡ insert (from_entries es) k v
      map-insert es fs k v h = same_map total exact _ _ (λ q.
          get-entries fs q ∙ h q ∙ ap (λ b. cond b (Some v) (found R es q)) ((eq_by_cmp_equiv total).symm k q)
          ∙ sym (get-insert total (from_entries es) k v q ∙ ap (cond (is_at (R q) k) (Some v)) (get-entries es q)))

      pub map-remove : (es fs : List (K × X)) (k : K) → ((q : K) → found R fs q ≡ cond (is_at (R k) q) None (found R es q))
          → from_entries {R = R} fs ≡ remove (from_entries es) k
      map-remove es fs k h = same_map total exact _ _ (λ q.
          get-entries fs q ∙ h q ∙ ap (λ b. cond b None (found R es q)) ((eq_by_cmp_equiv total).symm k q)
          ∙ sym (get-remove total (from_entries es) k q ∙ ap (cond (is_at (R q) k) None) (get-entries es q)))

    -- a lower bound of the entries has no key of the map before it
    pub none_before : (es : List (K × X)) (k : K) → ((q : K) → IsSome (found R es q) → is_gt (R k q) ≡ false)
        → (q : K) → contains_key (from_entries {R = R} es) q ≡ true → ¬ (R q k ≡ Less)
    none_before es k bound q here before =
        let low : is_gt (R k q) ≡ false = bound q (ap is_some (sym (get-entries es q)) ∙ here) in
        false≢true (sym low ∙ ap is_gt (total.antisymm k q ∙ ap ordering_reverse before))
