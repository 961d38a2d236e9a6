-- Changes of a world at different places, one after the other in either order.
use Rattle.std.proofs.Common.{◌≡◌, ◌≢◌, Bool, true, false, cond, List, [], ◌∷◌, Option, Some, None, ap, ◌∙◌, sym, refl}
use Rattle.std.specs.List.{AllByRecursion}
use Rattle.std.specs.Ordering.{eq_by_cmp}
use Rattle.std.specs.Cmp.{IsTotalOrder, Equal-is, nat_cmp_total}
use Rattle.std.specs.FinMap.{FinMap, IsAntisymmetric, get, insert, remove, get-insert, get-remove, same_map, nat_cmp-IsAntisymmetric}
use Rattle.std.specs.declared.cmp.Ordering.{Ordering}
use Rattle.base.specs.declared.key.Key.{Key}
use Rattle.base.specs.Order.{key_cmp, key_total, key_exact}
use Rattle.base.specs.World.{World, with_events, settled, events_of, Outcome}

module _ {K X : Type 0} {R : K → K → Ordering} (total : IsTotalOrder R) (exact : IsAntisymmetric R) where
  either_first : (k l q : K) (o p rest : Option X) → k ≢ l → (a b : Bool) → eq_by_cmp R q k ≡ a → eq_by_cmp R q l ≡ b → cond b p (cond a o rest) ≡ cond a o (cond b p rest)
  either_first k l q o p rest other true true e f = absurd (other (sym (exact q k ((Equal-is (R q k)).0 e)) ∙ exact q l ((Equal-is (R q l)).0 f)))
  either_first k l q o p rest other true false e f = refl
  either_first k l q o p rest other false b e f = refl

  -- maps that differ from one at two keys are one, whichever was changed first
  changed_twice : (m n r : FinMap R X) (k l : K) (o p : Option X) → k ≢ l
      → ((q : K) → get m q ≡ cond (eq_by_cmp R q l) p (cond (eq_by_cmp R q k) o (get r q)))
      → ((q : K) → get n q ≡ cond (eq_by_cmp R q k) o (cond (eq_by_cmp R q l) p (get r q))) → m ≡ n
  changed_twice m n r k l o p other first second =
      same_map total exact m n (λ q. first q ∙ either_first k l q o p (get r q) other (eq_by_cmp R q k) (eq_by_cmp R q l) refl refl ∙ sym (second q))

  pub insert_insert : (m : FinMap R X) (k l : K) (a b : X) → k ≢ l → insert (insert m k a) l b ≡ insert (insert m l b) k a
  insert_insert m k l a b other =
      changed_twice (insert (insert m k a) l b) (insert (insert m l b) k a) m k l (Some a) (Some b) other
      (λ q. get-insert total (insert m k a) l b q ∙ ap (cond (eq_by_cmp R q l) (Some b)) (get-insert total m k a q))
      (λ q. get-insert total (insert m l b) k a q ∙ ap (cond (eq_by_cmp R q k) (Some a)) (get-insert total m l b q))

  pub remove_insert : (m : FinMap R X) (k l : K) (a : X) → k ≢ l → remove (insert m k a) l ≡ insert (remove m l) k a
  remove_insert m k l a other =
      changed_twice (remove (insert m k a) l) (insert (remove m l) k a) m k l (Some a) None other
      (λ q. get-remove total (insert m k a) l q ∙ ap (cond (eq_by_cmp R q l) None) (get-insert total m k a q))
      (λ q. get-insert total (remove m l) k a q ∙ ap (cond (eq_by_cmp R q k) (Some a)) (get-remove total m l q))

  pub remove_remove : (m : FinMap R X) (k l : K) → k ≢ l → remove (remove m k) l ≡ remove (remove m l) k
  remove_remove m k l other =
      changed_twice (remove (remove m k) l) (remove (remove m l) k) m k l None None other
      (λ q. get-remove total (remove m k) l q ∙ ap (cond (eq_by_cmp R q l) None) (get-remove total m k q))
      (λ q. get-remove total (remove m l) k q ∙ ap (cond (eq_by_cmp R q k) None) (get-remove total m l q))

-- none of these events has the key
abbrev pub NoneIs : {C : Type 0} → Key → List (Key × C) → Type 0
NoneIs k es = AllByRecursion (λ e. e.0 ≢ k) es

module _ {C : Type 0} where
  pub with_events-insert : (es : List (Key × C)) (pending : FinMap key_cmp C) (k : Key) (c : C) → NoneIs k es → with_events (insert pending k c) es ≡ insert (with_events pending es) k c
  with_events-insert [] pending k c none = refl
  with_events-insert (e ∷ es) pending k c none =
      ap (λ m. with_events m es) (insert_insert key_total key_exact pending k e.0 c e.1 (λ same. none.0 (sym same))) ∙ with_events-insert es (insert pending e.0 e.1) k c none.1

  pub with_events-remove : (es : List (Key × C)) (pending : FinMap key_cmp C) (k : Key) → NoneIs k es → remove (with_events pending es) k ≡ with_events (remove pending k) es
  with_events-remove [] pending k none = refl
  with_events-remove (e ∷ es) pending k none =
      with_events-remove es (insert pending e.0 e.1) k none.1 ∙ ap (λ m. with_events m es) (remove_insert key_total key_exact pending e.0 k e.1 none.0)

  pub with_events-with_events : (es fs : List (Key × C)) (pending : FinMap key_cmp C) → AllByRecursion (λ e. NoneIs e.0 fs) es
      → with_events (with_events pending es) fs ≡ with_events (with_events pending fs) es
  with_events-with_events [] fs pending apart = refl
  with_events-with_events (e ∷ es) fs pending apart =
      with_events-with_events es fs (insert pending e.0 e.1) apart.1 ∙ ap (λ m. with_events m es) (with_events-insert fs pending e.0 e.1 apart.0)

module _ {S C R : Type 0} where
  pub pending_settled : (w : World S C) (k : Key) (o : Option (Outcome S C R)) → (settled w k o).pending ≡ with_events (remove w.pending k) (events_of o)
  pending_settled w k None = refl
  pending_settled w k (Some o) = refl

  members_swap : (w : World S C) (q k : Key) (o p : Option (Outcome S C R)) → q.to ≢ k.to → (settled (settled w q o) k p).members ≡ (settled (settled w k p) q o).members
  members_swap w q k None None other = refl
  members_swap w q k None (Some p) other = refl
  members_swap w q k (Some o) None other = refl
  members_swap w q k (Some o) (Some p) other = insert_insert nat_cmp_total nat_cmp-IsAntisymmetric w.members q.to k.to o.state p.state other

  pending_swap : (w : World S C) (q k : Key) (o p : Option (Outcome S C R)) → q ≢ k → NoneIs k (events_of o) → NoneIs q (events_of p)
      → AllByRecursion (λ e. NoneIs e.0 (events_of p)) (events_of o) → (settled (settled w q o) k p).pending ≡ (settled (settled w k p) q o).pending
  pending_swap w q k o p other no_k no_q apart =
      let es : List (Key × C) = events_of o in
      let fs : List (Key × C) = events_of p in
      pending_settled (settled w q o) k p
      ∙ ap (λ m. with_events (remove m k) fs) (pending_settled w q o)
      ∙ ap (λ m. with_events m fs) (with_events-remove es (remove w.pending q) k no_k)
      ∙ with_events-with_events es fs (remove (remove w.pending q) k) apart
      ∙ ap (λ m. with_events (with_events m fs) es) (remove_remove key_total key_exact w.pending q k other)
      ∙ ap (λ m. with_events m es) (sym (with_events-remove fs (remove w.pending k) q no_q))
      ∙ ap (λ m. with_events (remove m q) es) (sym (pending_settled w k p))
      ∙ sym (pending_settled (settled w k p) q o)

  -- the steps of two events with different receivers, neither of which makes the other or an event that the other makes
  pub settled_swap : (w : World S C) (q k : Key) (o p : Option (Outcome S C R)) → q.to ≢ k.to → NoneIs k (events_of o) → NoneIs q (events_of p)
      → AllByRecursion (λ e. NoneIs e.0 (events_of p)) (events_of o) → settled (settled w q o) k p ≡ settled (settled w k p) q o
  settled_swap w q k o p other no_k no_q apart =
      let members = members_swap w q k o p other in
      let pending = pending_swap w q k o p (λ same. other (ap (λ (r : Key). r.to) same)) no_k no_q apart in
      λ i. record { members = members i; pending = pending i }
