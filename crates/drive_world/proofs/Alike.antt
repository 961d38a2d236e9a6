-- A world of our own members, and the world of a drive in which they answer: the same members and the same events, but for idle ones.
use Rattle.std.proofs.Common.{◌≡◌, ◌≢◌, inl, inr, ℕ, Bool, true, false, cond, List, [], ◌∷◌, map, Option, Some, None, ap, ◌∙◌, sym, subst, refl}
use Rattle.std.specs.Option.{option_map}
use Rattle.std.specs.List.{AllByRecursion}
use Rattle.std.specs.Ordering.{nat_cmp, eq_by_cmp}
use Rattle.std.specs.Cmp.{nat_cmp_total}
use Rattle.std.specs.FinMap.{FinMap, get, insert, remove, from_entries, get-insert, get-remove, get-empty}
use Rattle.base.specs.declared.key.Key.{Key}
use Rattle.base.specs.Order.{key_cmp, key_total}
use Rattle.base.specs.Run.{tells}
use Rattle.base.specs.Rising.{IsRising}
use Rattle.base.specs.World.{with_events}
use Rattle.scenario.specs.Setup.{Setup}
use Rattle.member.specs.declared.event_kind.EventKind.{EventKind}
use Rattle.member.specs.State.{State}
use Rattle.member.specs.Opening.{opening_state}
use Rattle.drive_events.specs.declared.content.Content.{Content}
use Rattle.drive_process.specs.Own.{process_in, written_by, AreWithIdle}
use Rattle.drive_process.specs.Process.{Process, opening_process}

-- an event of the one, and that of the other
abbrev pub IsLike : (EventKind → Content) → (Key → Content → Type 0) → Key → Option EventKind → Option Content → Type 0
IsLike encode Idle q None None = Unit {0}
IsLike encode Idle q None (Some d) = Idle q d
IsLike encode Idle q (Some c) None = ⊥
IsLike encode Idle q (Some c) (Some d) = d ≡ encode c

module _ (encode : EventKind → Content) (Idle : Key → Content → Type 0) where
  abbrev pub AreLike : FinMap key_cmp EventKind → FinMap key_cmp Content → Type 0
  AreLike r p = (q : Key) → IsLike encode Idle q (get r q) (get p q)

  both_by : (q : Key) (o u : Option EventKind) (p v : Option Content) → o ≡ u → p ≡ v → IsLike encode Idle q u v → IsLike encode Idle q o p
  both_by q o u p v first second like = subst (λ x. IsLike encode Idle q x p) (sym first) (subst (λ y. IsLike encode Idle q u y) (sym second) like)

  removed_like : (q : Key) (o : Option EventKind) (p : Option Content) (b : Bool) → IsLike encode Idle q o p → IsLike encode Idle q (cond b None o) (cond b None p)
  removed_like q o p true like = tt
  removed_like q o p false like = like

  pub like_removed : (r : FinMap key_cmp EventKind) (p : FinMap key_cmp Content) (k : Key) → AreLike r p → AreLike (remove r k) (remove p k)
  like_removed r p k all q =
      both_by q _ _ _ _ (get-remove key_total r k q) (get-remove key_total p k q) (removed_like q (get r q) (get p q) (eq_by_cmp key_cmp q k) (all q))

  idle_gone : (q : Key) (o : Option EventKind) (p : Option Content) (b : Bool) → (b ≡ true → o ≡ None) → IsLike encode Idle q o p → IsLike encode Idle q o (cond b None p)
  idle_gone q o p true none like = subst (λ x. IsLike encode Idle q x None) (sym (none refl)) tt
  idle_gone q o p false none like = like

  -- an idle event goes
  pub like_without_idle : (r : FinMap key_cmp EventKind) (p : FinMap key_cmp Content) (k : Key) → get r k ≡ None → AreLike r p → AreLike r (remove p k)
  like_without_idle r p k none all q =
      both_by q _ _ _ _ refl (get-remove key_total p k q)
      (idle_gone q (get r q) (get p q) (eq_by_cmp key_cmp q k) (λ same. ap (get r) (tells q k same) ∙ none) (all q))

  inserted_like : (q : Key) (c : EventKind) (o : Option EventKind) (p : Option Content) (b : Bool) → IsLike encode Idle q o p → IsLike encode Idle q (cond b (Some c) o) (cond b (Some (encode c)) p)
  inserted_like q c o p true like = refl
  inserted_like q c o p false like = like

  pub like_inserted : (r : FinMap key_cmp EventKind) (p : FinMap key_cmp Content) (k : Key) (c : EventKind) → AreLike r p → AreLike (insert r k c) (insert p k (encode c))
  like_inserted r p k c all q =
      both_by q _ _ _ _ (get-insert key_total r k c q) (get-insert key_total p k (encode c) q) (inserted_like q c (get r q) (get p q) (eq_by_cmp key_cmp q k) (all q))

  idle_comes : (q k : Key) (d : Content) (o : Option EventKind) (p : Option Content) (b : Bool) → (b ≡ true → (q ≡ k) × (o ≡ None)) → Idle k d → IsLike encode Idle q o p → IsLike encode Idle q o (cond b (Some d) p)
  idle_comes q k d o p true here idle like =
      subst (λ x. IsLike encode Idle q x (Some d)) (sym (here refl).1) (subst (λ y. Idle y d) (sym (here refl).0) idle)
  idle_comes q k d o p false here idle like = like

  pub like_with_idle : (r : FinMap key_cmp EventKind) (p : FinMap key_cmp Content) (k : Key) (d : Content) → get r k ≡ None → Idle k d → AreLike r p → AreLike r (insert p k d)
  like_with_idle r p k d none idle all q =
      both_by q _ _ _ _ refl (get-insert key_total p k d q)
      (idle_comes q k d (get r q) (get p q) (eq_by_cmp key_cmp q k) (λ same. let is = tells q k same in (is, ap (get r) is ∙ none)) idle (all q))

  other_get : (r : FinMap key_cmp EventKind) (k q : Key) (c : EventKind) (b : Bool) → k ≢ q → eq_by_cmp key_cmp q k ≡ b → get r q ≡ None → cond b (Some c) (get r q) ≡ None
  other_get r k q c true other e none = absurd (other (sym (tells q k e)))
  other_get r k q c false other e none = none

  still_new : (es : List (Key × Content)) (r : FinMap key_cmp EventKind) (k : Key) (c : EventKind) → AllByRecursion (λ e. get r e.0 ≡ None) es → AllByRecursion (λ e. k ≢ e.0) es
      → AllByRecursion (λ e. get (insert r k c) e.0 ≡ None) es
  still_new [] r k c none other = tt
  still_new (e ∷ es) r k c none other =
      (get-insert key_total r k c e.0 ∙ other_get r k e.0 c (eq_by_cmp key_cmp e.0 k) other.0 refl none.0, still_new es r k c none.1 other.1)

  -- what a step makes pends in both
  pub like_events : (es : List (Key × Content)) (fs : List (Key × EventKind)) (r : FinMap key_cmp EventKind) (p : FinMap key_cmp Content) → AreLike r p → AreWithIdle Idle es (written_by encode fs)
      → AllByRecursion (λ e. get r e.0 ≡ None) es → IsRising (λ e f. e.0 ≢ f.0) es → AreLike (with_events r fs) (with_events p es)
  like_events [] [] r p all are none apart = all
  like_events [] (f ∷ fs) r p all are none apart = absurd are
  like_events (e ∷ es) [] r p all are none apart = like_events es [] r (insert p e.0 e.1) (like_with_idle r p e.0 e.1 none.0 are.0 all) are.1 none.1 apart.1
  like_events (e ∷ es) (f ∷ fs) r p all (inl are) none apart =
      let key : e.0 ≡ f.0 = ap (λ x. x.0) are.0 in
      let held : AreLike (insert r e.0 f.1) (insert p e.0 e.1) = subst (λ d. AreLike (insert r e.0 f.1) (insert p e.0 d)) (sym (ap (λ x. x.1) are.0)) (like_inserted r p e.0 f.1 all) in
      like_events es fs (insert r f.0 f.1) (insert p e.0 e.1) (subst (λ x. AreLike (insert r x f.1) (insert p e.0 e.1)) key held) are.1
      (subst (λ x. AllByRecursion (λ y. get (insert r x f.1) y.0 ≡ None) es) key (still_new es r e.0 f.1 none.1 apart.0)) apart.1
  like_events (e ∷ es) (f ∷ fs) r p all (inr are) none apart = like_events es (f ∷ fs) r (insert p e.0 e.1) (like_with_idle r p e.0 e.1 none.0 are.0 all) are.1 none.1 apart.1

-- ---- members

-- each member of the one, as the world of a drive keeps it
abbrev pub HasProcesses : FinMap nat_cmp State → FinMap nat_cmp Process → Type 0
HasProcesses w v = (m : ℕ) → get v m ≡ option_map process_in (get w m)

process_put : (t : State) (o : Option State) (b : Bool) → cond b (Some (process_in t)) (option_map process_in o) ≡ option_map process_in (cond b (Some t) o)
process_put t o true = refl
process_put t o false = refl

pub with_process : (w : FinMap nat_cmp State) (v : FinMap nat_cmp Process) (m : ℕ) (t : State) → HasProcesses w v → HasProcesses (insert w m t) (insert v m (process_in t))
with_process w v m t all n =
    get-insert nat_cmp_total v m (process_in t) n ∙ ap (cond (eq_by_cmp nat_cmp n m) (Some (process_in t))) (all n)
    ∙ process_put t (get w n) (eq_by_cmp nat_cmp n m) ∙ ap (option_map process_in) (sym (get-insert nat_cmp_total w m t n))

opened_process : (s : Setup) (m : ℕ) → process_in (opening_state s m) ≡ opening_process s m
unfolding opening_state opening_process
opened_process s m = refl

pub opened_processes : (s : Setup) (members : List ℕ) → HasProcesses (from_entries (map (λ m. (m, opening_state s m)) members)) (from_entries (map (λ m. (m, opening_process s m)) members))
opened_processes s [] n = get-empty nat_cmp n ∙ ap (option_map process_in) (sym (get-empty nat_cmp n))
opened_processes s (m ∷ members) n =
    ap (λ p. get {R = nat_cmp} (insert (from_entries (map (λ i. (i, opening_process s i)) members)) m p) n) (sym (opened_process s m))
    ∙ with_process (from_entries (map (λ i. (i, opening_state s i)) members)) (from_entries (map (λ i. (i, opening_process s i)) members)) m (opening_state s m) (opened_processes s members) n
