-- How a part of a world changes with the world.
use Rattle.std.proofs.Common.{◌≡◌, ℕ, Bool, true, false, not, cond, List, [], ◌∷◌, ◌++◌, Option, Some, None, ap, ◌∙◌, sym, refl}
use Rattle.std.specs.Option.{option_map}
use Rattle.std.specs.List.{AllByRecursion, filter}
use Rattle.std.specs.Ordering.{eq_by_cmp}
use Rattle.std.specs.Cmp.{IsTotalOrder, Equal-is, nat_cmp_total}
use Rattle.std.specs.FinMap.{FinMap, IsAntisymmetric, get, insert, remove, retain_keys, get-insert, get-remove, get-retain_keys, same_map, nat_cmp-IsAntisymmetric}
use Rattle.std.specs.declared.cmp.Ordering.{Ordering}
use Rattle.std.proofs.lemmas.Bool.{false≢true}
use Rattle.base.specs.declared.key.Key.{Key}
use Rattle.base.specs.Order.{key_cmp, key_total, key_exact}
use Rattle.base.specs.World.{Outcome, World, with_events, settled, events_of}
use Rattle.windows.specs.Parts.{part_of, for_own, for_others, with_arrivals, kept_by}
use Rattle.windows.proofs.Swaps.{NoneIs, pending_settled, with_events-remove, with_events-with_events}

module _ {K X : Type 0} {R : K → K → Ordering} (total : IsTotalOrder R) (exact : IsAntisymmetric R) (own : K → Bool) where
  pub get_retained : (m : FinMap R X) (q : K) → get (retain_keys m own) q ≡ cond (own q) (get m q) None
  get_retained m q = get-retain_keys m own q (λ x tied. ap own (sym (exact q x tied)))

  -- the change at k is met in the kept keys just where k is one of them
  changed_own : (k q : K) (o rest : Option X) (a b : Bool) → own k ≡ true → own q ≡ a → eq_by_cmp R q k ≡ b → cond a (cond b o rest) None ≡ cond b o (cond a rest None)
  changed_own k q o rest true b mine e f = refl
  changed_own k q o rest false false mine e f = refl
  changed_own k q o rest false true mine e f = absurd (false≢true (sym e ∙ ap own (exact q k ((Equal-is (R q k)).0 f)) ∙ mine))

  changed_other : (k q : K) (o rest : Option X) (a b : Bool) → own k ≡ false → own q ≡ a → eq_by_cmp R q k ≡ b → cond a (cond b o rest) None ≡ cond a rest None
  changed_other k q o rest true true other e f = absurd (false≢true (sym other ∙ ap own (sym (exact q k ((Equal-is (R q k)).0 f))) ∙ e))
  changed_other k q o rest true false other e f = refl
  changed_other k q o rest false b other e f = refl

  pub retain_insert : (m : FinMap R X) (k : K) (v : X) → own k ≡ true → retain_keys (insert m k v) own ≡ insert (retain_keys m own) k v
  retain_insert m k v mine =
      same_map total exact _ _ (λ q.
      get_retained (insert m k v) q ∙ ap (λ o. cond (own q) o None) (get-insert total m k v q)
      ∙ changed_own k q (Some v) (get m q) (own q) (eq_by_cmp R q k) mine refl refl
      ∙ sym (get-insert total (retain_keys m own) k v q ∙ ap (cond (eq_by_cmp R q k) (Some v)) (get_retained m q)))

  pub retain_insert_other : (m : FinMap R X) (k : K) (v : X) → own k ≡ false → retain_keys (insert m k v) own ≡ retain_keys m own
  retain_insert_other m k v other =
      same_map total exact _ _ (λ q.
      get_retained (insert m k v) q ∙ ap (λ o. cond (own q) o None) (get-insert total m k v q)
      ∙ changed_other k q (Some v) (get m q) (own q) (eq_by_cmp R q k) other refl refl ∙ sym (get_retained m q))

  pub retain_remove : (m : FinMap R X) (k : K) → own k ≡ true → retain_keys (remove m k) own ≡ remove (retain_keys m own) k
  retain_remove m k mine =
      same_map total exact _ _ (λ q.
      get_retained (remove m k) q ∙ ap (λ o. cond (own q) o None) (get-remove total m k q)
      ∙ changed_own k q None (get m q) (own q) (eq_by_cmp R q k) mine refl refl
      ∙ sym (get-remove total (retain_keys m own) k q ∙ ap (cond (eq_by_cmp R q k) None) (get_retained m q)))

  pub retain_remove_other : (m : FinMap R X) (k : K) → own k ≡ false → retain_keys (remove m k) own ≡ retain_keys m own
  retain_remove_other m k other =
      same_map total exact _ _ (λ q.
      get_retained (remove m k) q ∙ ap (λ o. cond (own q) o None) (get-remove total m k q)
      ∙ changed_other k q None (get m q) (own q) (eq_by_cmp R q k) other refl refl ∙ sym (get_retained m q))

module _ {C : Type 0} (owns : ℕ → Bool) where
  abbrev own_keys : FinMap key_cmp C → FinMap key_cmp C
  own_keys pending = retain_keys pending (λ k. owns k.to)

  retain_either : (pending : FinMap key_cmp C) (e : Key × C) (es : List (Key × C)) (b : Bool) → owns e.0.to ≡ b
      → with_events (own_keys (insert pending e.0 e.1)) (for_own owns es) ≡ with_events (own_keys pending) (cond b (e ∷ for_own owns es) (for_own owns es))
  retain_either pending e es true mine = ap (λ m. with_events m (for_own owns es)) (retain_insert key_total key_exact (λ k. owns k.to) pending e.0 e.1 mine)
  retain_either pending e es false other = ap (λ m. with_events m (for_own owns es)) (retain_insert_other key_total key_exact (λ k. owns k.to) pending e.0 e.1 other)

  pub retain_events : (es : List (Key × C)) (pending : FinMap key_cmp C) → own_keys (with_events pending es) ≡ with_events (own_keys pending) (for_own owns es)
  retain_events [] pending = refl
  retain_events (e ∷ es) pending = retain_events es (insert pending e.0 e.1) ∙ retain_either pending e es (owns e.0.to) refl

module _ {S C R : Type 0} (owns : ℕ → Bool) where
  pub events_kept : (o : Option (Outcome S C R)) → events_of (option_map (kept_by owns) o) ≡ for_own owns (events_of o)
  events_kept None = refl
  events_kept (Some o) = refl

  members_own : (w : World S C) (k : Key) (o : Option (Outcome S C R)) → owns k.to ≡ true
      → retain_keys (settled w k o).members owns ≡ (settled (part_of owns w) k (option_map (kept_by owns) o)).members
  members_own w k None mine = refl
  members_own w k (Some o) mine = retain_insert nat_cmp_total nat_cmp-IsAntisymmetric owns w.members k.to o.state mine

  members_other : (w : World S C) (k : Key) (o : Option (Outcome S C R)) → owns k.to ≡ false → retain_keys (settled w k o).members owns ≡ retain_keys w.members owns
  members_other w k None other = refl
  members_other w k (Some o) other = retain_insert_other nat_cmp_total nat_cmp-IsAntisymmetric owns w.members k.to o.state other

  -- the part whose event is handled takes the step, less what is for others
  pub part_settled : (w : World S C) (k : Key) (o : Option (Outcome S C R)) → owns k.to ≡ true → part_of owns (settled w k o) ≡ settled (part_of owns w) k (option_map (kept_by owns) o)
  part_settled w k o mine =
      let members = members_own w k o mine in
      let pending : own_keys owns (settled w k o).pending ≡ (settled (part_of owns w) k (option_map (kept_by owns) o)).pending =
      ap (own_keys owns) (pending_settled w k o)
      ∙ retain_events owns (events_of o) (remove w.pending k)
      ∙ ap (λ m. with_events m (for_own owns (events_of o))) (retain_remove key_total key_exact (λ k. owns k.to) w.pending k mine)
      ∙ ap (with_events (remove (own_keys owns w.pending) k)) (sym (events_kept o))
      ∙ sym (pending_settled (part_of owns w) k (option_map (kept_by owns) o)) in
      λ i. record { members = members i; pending = pending i }

  -- to any other part the events made for it come
  pub part_settled_other : (w : World S C) (k : Key) (o : Option (Outcome S C R)) → owns k.to ≡ false → part_of owns (settled w k o) ≡ with_arrivals (part_of owns w) (for_own owns (events_of o))
  part_settled_other w k o other =
      let members = members_other w k o other in
      let pending : own_keys owns (settled w k o).pending ≡ with_events (own_keys owns w.pending) (for_own owns (events_of o)) =
      ap (own_keys owns) (pending_settled w k o)
      ∙ retain_events owns (events_of o) (remove w.pending k)
      ∙ ap (λ m. with_events m (for_own owns (events_of o))) (retain_remove_other key_total key_exact (λ k. owns k.to) w.pending k other) in
      λ i. record { members = members i; pending = pending i }

module _ {S C R : Type 0} where
  members_joined : (p : World S C) (k : Key) (o : Option (Outcome S C R)) (es : List (Key × C)) → (settled (with_arrivals p es) k o).members ≡ (settled p k o).members
  members_joined p k None es = refl
  members_joined p k (Some o) es = refl

  -- events that come to a part before a step or after it
  pub settled_joined : (p : World S C) (k : Key) (o : Option (Outcome S C R)) (es : List (Key × C)) → NoneIs k es → AllByRecursion (λ e. NoneIs e.0 (events_of o)) es
      → settled (with_arrivals p es) k o ≡ with_arrivals (settled p k o) es
  settled_joined p k o es none apart =
      let members = members_joined p k o es in
      let pending : (settled (with_arrivals p es) k o).pending ≡ with_events (settled p k o).pending es =
      pending_settled (with_arrivals p es) k o
      ∙ ap (λ m. with_events m (events_of o)) (with_events-remove es p.pending k none)
      ∙ with_events-with_events es (events_of o) (remove p.pending k) apart
      ∙ ap (λ m. with_events m es) (sym (pending_settled p k o)) in
      λ i. record { members = members i; pending = pending i }

with_events-append : {C : Type 0} (es fs : List (Key × C)) (pending : FinMap key_cmp C) → with_events (with_events pending es) fs ≡ with_events pending (es ++ fs)
with_events-append [] fs pending = refl
with_events-append (e ∷ es) fs pending = with_events-append es fs (insert pending e.0 e.1)

pub joined_joined : {S C : Type 0} (p : World S C) (es fs : List (Key × C)) → with_arrivals (with_arrivals p es) fs ≡ with_arrivals p (es ++ fs)
joined_joined p es fs = ap (λ m. record { members = p.members; pending = m }) (with_events-append es fs p.pending)

-- ---- filters of events

module _ {A : Type 0} (test : A → Bool) where
  kept_either : (P : A → Type 0) (x : A) (xs : List A) (b : Bool) → test x ≡ b → P x → AllByRecursion (λ x. (test x ≡ true) × P x) (filter test xs)
      → AllByRecursion (λ x. (test x ≡ true) × P x) (cond b (x ∷ filter test xs) (filter test xs))
  kept_either P x xs true e holds rest = ((e, holds), rest)
  kept_either P x xs false e holds rest = rest

  -- what is kept passes the test, and what held of all holds of it
  pub all_kept : (P : A → Type 0) (xs : List A) → AllByRecursion P xs → AllByRecursion (λ x. (test x ≡ true) × P x) (filter test xs)
  all_kept P [] all = tt
  all_kept P (x ∷ xs) all = kept_either P x xs (test x) refl all.0 (all_kept P xs all.1)

-- no event for others is for own members
kept_none : {C : Type 0} (owns : ℕ → Bool) (e : Key × C) (es : List (Key × C)) (b : Bool) → owns e.0.to ≡ b → for_own owns (for_others owns es) ≡ []
    → for_own owns (cond (not b) (e ∷ for_others owns es) (for_others owns es)) ≡ []
kept_none owns e es true mine rest = rest
kept_none owns e es false other rest = ap (λ b. cond b (e ∷ for_own owns (for_others owns es)) (for_own owns (for_others owns es))) other ∙ rest

pub own_of_others : {C : Type 0} (owns : ℕ → Bool) (es : List (Key × C)) → for_own owns (for_others owns es) ≡ []
own_of_others owns [] = refl
own_of_others owns (e ∷ es) = kept_none owns e es (owns e.0.to) refl (own_of_others owns es)

-- for another part's members are just those events of which another part says that they go out
kept_same : {C : Type 0} (owns mine : ℕ → Bool) (e : Key × C) (es : List (Key × C)) (a b : Bool) → owns e.0.to ≡ a → mine e.0.to ≡ b → ((m : ℕ) → mine m ≡ true → owns m ≡ false)
    → for_own mine (for_others owns es) ≡ for_own mine es → for_own mine (cond (not a) (e ∷ for_others owns es) (for_others owns es)) ≡ cond b (e ∷ for_own mine es) (for_own mine es)
kept_same owns mine e es true true e_owns e_mine apart rest = absurd (false≢true (sym (apart e.0.to e_mine) ∙ e_owns))
kept_same owns mine e es true false e_owns e_mine apart rest = rest
kept_same owns mine e es false b e_owns e_mine apart rest =
    ap (λ c. cond c (e ∷ for_own mine (for_others owns es)) (for_own mine (for_others owns es))) e_mine ∙ ap (λ l. cond b (e ∷ l) l) rest

pub own_of_sent : {C : Type 0} (owns mine : ℕ → Bool) → ((m : ℕ) → mine m ≡ true → owns m ≡ false) → (es : List (Key × C)) → for_own mine (for_others owns es) ≡ for_own mine es
own_of_sent owns mine apart [] = refl
own_of_sent owns mine apart (e ∷ es) = kept_same owns mine e es (owns e.0.to) (mine e.0.to) refl refl apart (own_of_sent owns mine apart es)
