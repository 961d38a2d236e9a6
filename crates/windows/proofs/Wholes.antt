-- The parts of a cluster of all members: each is consistent, and owns the members of its number.
use Rattle.std.proofs.Common.{◌≡◌, ℕ, ◌<◌, Bool, true, false, cond, nat_lt, List, Option, Some, None, ap, ◌∙◌, sym, subst, refl, arith}
use Rattle.std.specs.Option.{is_some}
use Rattle.std.specs.Cmp.{nat_cmp_total}
use Rattle.std.specs.FinMap.{get, contains_key, nat_cmp-IsAntisymmetric}
use Rattle.std.proofs.lemmas.Bool.{false≢true, eqb-true, ltb-true, ltb-false}
use Rattle.std.proofs.lemmas.Option.{same_Some}
use Rattle.base.specs.declared.key.Key.{Key}
use Rattle.base.specs.Order.{key_total, key_exact}
use Rattle.base.specs.World.{IsPending}
use Rattle.scenario.specs.Setup.{Setup, member_count}
use Rattle.trace.specs.declared.row.Row.{Row}
use Rattle.member.specs.declared.event_kind.EventKind.{EventKind}
use Rattle.member.specs.State.{State}
use Rattle.member.specs.Step.{step}
use Rattle.member_laws.specs.Runs.{Cluster}
use Rattle.windows.specs.Parts.{PartWindow, part_of, is_in}
use Rattle.windows.specs.Cluster.{IsWholeCluster}
use Rattle.windows.specs.Window.{is_own, IsConsistentPart}
use Rattle.windows.proofs.Cuts.{get_retained}
use Rattle.windows.proofs.Windows.{kept_value}

-- what pends in a part pends in its world
pub pending_kept : (owns : ℕ → Bool) (w : Cluster) (k : Key) → IsPending (part_of owns w) k → IsPending w k
pending_kept owns w k here = by_test (owns k.to) (sym (ap is_some (get_retained key_total key_exact (λ q. owns q.to) w.pending k)) ∙ here)
  where
    by_test : (b : Bool) → is_some (cond b (get w.pending k) None) ≡ true → is_some (get w.pending k) ≡ true
    by_test true here = here
    by_test false here = absurd (false≢true here)

module _ (s : Setup) (w : Cluster) (whole : IsWholeCluster s w) (owns : ℕ → Bool) where
  pub member_in : (m : ℕ) (t : State) → get (part_of owns w).members m ≡ Some t → (owns m ≡ true) × (get w.members m ≡ Some t)
  member_in m t here = kept_value (get w.members m) t (owns m) (owns m) refl (sym (get_retained nat_cmp_total nat_cmp-IsAntisymmetric owns w.members m) ∙ here)

  event_in : (k : Key) (c : EventKind) → get (part_of owns w).pending k ≡ Some c → (owns k.to ≡ true) × (get w.pending k ≡ Some c)
  event_in k c here = kept_value (get w.pending k) c (owns k.to) (owns k.to) refl (sym (get_retained key_total key_exact (λ q. owns q.to) w.pending k) ∙ here)

  lower : (m : ℕ) → nat_lt m (member_count s) ≡ true → m < member_count s
  lower m h = ltb-true m (member_count s) h

  is_member : (m : ℕ) → m < member_count s → contains_key w.members m ≡ true
  is_member m less = whole.peopled m ∙ by_test (nat_lt m (member_count s)) refl
    where
      by_test : (b : Bool) → nat_lt m (member_count s) ≡ b → b ≡ true
      by_test true h = refl
      by_test false h = let past = ltb-false m (member_count s) h in absurd (omega arith)

  pub pending_in : (k : Key) → IsPending (part_of owns w) k → (owns k.to ≡ true) × (k.to < member_count s) × IsPending w k
  pending_in k here = by_value (get (part_of owns w).pending k) refl here
    where
      by_value : (o : Option EventKind) → get (part_of owns w).pending k ≡ o → is_some o ≡ true → (owns k.to ≡ true) × (k.to < member_count s) × IsPending w k
      by_value None is here = absurd (false≢true here)
      by_value (Some c) is here = let found = event_in k c is in (found.0, (whole.sound.events k c found.1).receiver, ap is_some found.1)

  own_among : (m : ℕ) → owns m ≡ true → m < member_count s → is_own (part_of owns w) m ≡ true
  own_among m mine less = ap is_some (get_retained nat_cmp_total nat_cmp-IsAntisymmetric owns w.members m) ∙ ap (λ b. is_some (cond b (get w.members m) None)) mine ∙ is_member m less

  pub part_consistent : IsConsistentPart s (part_of owns w)
  part_consistent = record {
    members = λ m t here. let found = member_in m t here in (lower m (sym (whole.peopled m) ∙ ap is_some found.1), whole.sound.states m t found.1);
    events = λ k c here. whole.sound.events k c (event_in k c here).1;
    own = λ k here. let found = pending_in k here in own_among k.to found.0 found.1;
    numbered = λ k here t there.
        let used = whole.numbered k (pending_in k here).2 in
        let same : used.0 ≡ t = same_Some used.0 t (sym used.1 ∙ (member_in k.from t there).1) in
        subst (λ (u : State). k.number < u.next_number) same used.2;
  }

  -- where those that it owns are members, these are the part's members
  own_at : ((m : ℕ) → owns m ≡ true → m < member_count s) → (m : ℕ) (b : Bool) → owns m ≡ b → is_some (cond b (get w.members m) None) ≡ b
  own_at below m true mine = is_member m (below m mine)
  own_at below m false other = refl

  pub own_here : ((m : ℕ) → owns m ≡ true → m < member_count s) → ◌≡◌ {A = ℕ → Bool} (is_own (part_of owns w)) owns
  own_here below = λ j m. (ap is_some (get_retained nat_cmp_total nat_cmp-IsAntisymmetric owns w.members m) ∙ own_at below m (owns m) refl) j

-- so a part's window goes by its number alone
pub window_by_number : (s : Setup) (division : ℕ → ℕ) (part bound : ℕ) (w after : Cluster) (keys : List Key) (out : List (Key × EventKind)) (rows : List Row) → IsWholeCluster s w
    → ((m : ℕ) → division m ≡ part → m < member_count s) → PartWindow (step s) (is_own (part_of (is_in division part) w)) bound (part_of (is_in division part) w) keys out rows after
    → PartWindow (step s) (is_in division part) bound (part_of (is_in division part) w) keys out rows after
window_by_number s division part bound w after keys out rows whole below window =
    subst (λ owns. PartWindow (step s) owns bound (part_of (is_in division part) w) keys out rows after)
    (own_here s w whole (is_in division part) (λ m mine. below m (eqb-true (division m) part mine))) window
