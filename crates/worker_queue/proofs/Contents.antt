-- What the events of a set ask, by their keys, as the set changes.
use Rattle.std.proofs.Common.{◌≡◌, ℕ, Bool, true, false, cond, List, [], ◌∷◌, map, Option, Some, None, ap, ◌∙◌, sym, refl}
use Rattle.std.specs.Option.{is_some, option_map}
use Rattle.std.specs.Ordering.{eq_by_cmp}
use Rattle.std.specs.Cmp.{IsTotalOrder}
use Rattle.std.specs.declared.cmp.Ordering.{Ordering}
use Rattle.std.specs.FinMap.{FinMap, IsAntisymmetric, entries, get, contains_key, insert, remove, find, get-from_entries, get-entries, empty, get-insert, get-remove, get-empty, same_map}
use Rattle.base.specs.declared.key.Key.{Key}
use Rattle.base.specs.Order.{key_cmp, key_total, key_exact}
use Rattle.base.specs.Run.{IsFirst}
use Rattle.worker_queue.specs.Queue.{IsLeastKey, NoneIsBelow, IsLeastKeyFor, NoneIsBelowFor}
use Rattle.worker_queue.specs.Contents.{mapped, contents_by}

module _ {X Y : Type 0} (f : X → Y) where
  some_mapped : (b : Bool) (x : X) (o : Option X) → option_map f (cond b (Some x) o) ≡ cond b (Some (f x)) (option_map f o)
  some_mapped true x o = refl
  some_mapped false x o = refl

  none_mapped : (b : Bool) (o : Option X) → option_map f (cond b None o) ≡ cond b None (option_map f o)
  none_mapped true o = refl
  none_mapped false o = refl

  pub still_there : (o : Option X) → is_some (option_map f o) ≡ is_some o
  still_there None = refl
  still_there (Some x) = refl

  find_mapped : {K : Type 0} (R : K → K → Ordering) (es : List (K × X)) (q : K) → find R q (map (λ e. (e.0, f e.1)) es) ≡ option_map f (find R q es)
  find_mapped R [] q = refl
  find_mapped R (e ∷ es) q = ap (cond (eq_by_cmp R q e.0) (Some (f e.1))) (find_mapped R es q) ∙ sym (some_mapped (eq_by_cmp R q e.0) e.1 (find R q es))

  -- ---- any map

  module _ {K : Type 0} {R : K → K → Ordering} where
    module _ (total : IsTotalOrder R) where
      pub get_mapped : (m : FinMap R X) (q : K) → get (mapped f m) q ≡ option_map f (get m q)
      get_mapped m q = get-from_entries total (map (λ e. (e.0, f e.1)) (entries m)) q ∙ find_mapped R (entries m) q ∙ ap (option_map f) (sym (get-entries m q))

      module _ (exact : IsAntisymmetric R) where
        pub mapped_insert : (m : FinMap R X) (k : K) (x : X) → mapped f (insert m k x) ≡ insert (mapped f m) k (f x)
        mapped_insert m k x =
            same_map total exact _ _ (λ q.
            get_mapped (insert m k x) q ∙ ap (option_map f) (get-insert total m k x q) ∙ some_mapped (eq_by_cmp R q k) x (get m q)
            ∙ ap (cond (eq_by_cmp R q k) (Some (f x))) (sym (get_mapped m q)) ∙ sym (get-insert total (mapped f m) k (f x) q))

        pub mapped_remove : (m : FinMap R X) (k : K) → mapped f (remove m k) ≡ remove (mapped f m) k
        mapped_remove m k =
            same_map total exact _ _ (λ q.
            get_mapped (remove m k) q ∙ ap (option_map f) (get-remove total m k q) ∙ none_mapped (eq_by_cmp R q k) (get m q)
            ∙ ap (cond (eq_by_cmp R q k) None) (sym (get_mapped m q)) ∙ sym (get-remove total (mapped f m) k q))

        pub mapped_empty : mapped f (empty {R = R}) ≡ empty
        mapped_empty = same_map total exact _ _ (λ q. get_mapped empty q ∙ ap (option_map f) (get-empty R q) ∙ sym (get-empty R q))

-- ---- a set of events

module _ {E C : Type 0} (content : E → C) where
  pub content_at : (events : FinMap key_cmp E) (q : Key) → get (contents_by content events) q ≡ option_map content (get events q)
  content_at events q = get_mapped content key_total events q

  pub still_pending : (events : FinMap key_cmp E) (q : Key) → contains_key (contents_by content events) q ≡ contains_key events q
  still_pending events q = ap is_some (content_at events q) ∙ still_there content (get events q)

  pub contents_by-empty : contents_by content empty ≡ empty
  contents_by-empty = mapped_empty content key_total key_exact

  pub contents_by-insert : (events : FinMap key_cmp E) (k : Key) (e : E) → contents_by content (insert events k e) ≡ insert (contents_by content events) k (content e)
  contents_by-insert events k e = mapped_insert content key_total key_exact events k e

  pub contents_by-remove : (events : FinMap key_cmp E) (k : Key) → contents_by content (remove events k) ≡ remove (contents_by content events) k
  contents_by-remove events k = mapped_remove content key_total key_exact events k

  module _ (events : FinMap key_cmp E) where
    pub here_content : (k : Key) (e : E) → get events k ≡ Some e → get (contents_by content events) k ≡ Some (content e)
    here_content k e here = content_at events k ∙ ap (option_map content) here

    pub first_content : (k : Key) (e : E) → IsFirst events k e → IsFirst (contents_by content events) k (content e)
    first_content k e is = record { here = here_content k e is.here; least = λ q here. is.least q (sym (still_pending events q) ∙ here) }

    pub least_content : (k : Key) → IsLeastKey events k → IsLeastKey (contents_by content events) k
    least_content k is = record { here = still_pending events k ∙ is.here; least = λ q here. is.least q (sym (still_pending events q) ∙ here) }

    pub least_content_for : (receiver : ℕ) (k : Key) → IsLeastKeyFor events receiver k → IsLeastKeyFor (contents_by content events) receiver k
    least_content_for receiver k is = record { here = still_pending events k ∙ is.here; own = is.own; least = λ q here. is.least q (sym (still_pending events q) ∙ here) }

    pub none_below : (bound : ℕ) → NoneIsBelow events bound → NoneIsBelow (contents_by content events) bound
    none_below bound none q here = none q (sym (still_pending events q) ∙ here)

    pub none_below_for : (receiver bound : ℕ) → NoneIsBelowFor events receiver bound → NoneIsBelowFor (contents_by content events) receiver bound
    none_below_for receiver bound none q here = none q (sym (still_pending events q) ∙ here)
