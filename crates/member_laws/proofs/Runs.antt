-- What each step keeps of a member's state and of the events that pend, a run keeps.
use Rattle.std.proofs.Common.{◌≡◌, ℕ, ◌<◌, ◌≤◌, Bool, true, false, cond, eqb, List, [], ◌∷◌, map, Option, Some, None, refl, sym, ap, subst, ◌∙◌, arith}
use Rattle.std.proofs.lemmas.Option.{same_Some}
use Rattle.std.specs.Option.{is_some, option_map}
use Rattle.std.specs.List.{AllByRecursion}
use Rattle.std.specs.Ordering.{nat_cmp, eq_by_cmp}
use Rattle.std.specs.FinMap.{FinMap, get, remove, from_entries, get-remove, get-empty}
use Rattle.std.proofs.lemmas.Bool.{false≢true, eqb-true}
use Rattle.base.specs.declared.key.Key.{Key}
use Rattle.base.specs.Order.{key_cmp, key_total}
use Rattle.base.specs.World.{Machine, World, settled, rows_of, Run}
use Rattle.base.proofs.Rising.{all_append}
use Rattle.base.proofs.Kept.{HoldsOfAll, all_with_events}
use Rattle.base.specs.declared.profile.Profile.TheVariants.{Papers, Memberlist, Hashicorp}
use Rattle.scenario.specs.Profile.{profile_of}
use Rattle.scenario.specs.Setup.{Setup}
use Rattle.incarnation.specs.declared.Claim.TheVariants.{Alive, Confirm}
use Rattle.member.specs.declared.event_kind.EventKind.{EventKind}
use Rattle.member.specs.State.{State}
use Rattle.member.specs.Opening.{opening_state, opening, numbers}
use Rattle.member.specs.Step.{step}
use Rattle.std.specs.Option.{option_map_or, option_or}
use Rattle.base.specs.declared.profile.Profile.{Profile}
use Rattle.scenario.specs.Setup.{crash_of, leave_of}
use Rattle.member.specs.Opening.{first_number_by}
use Rattle.member_laws.specs.Words.{WaitsAsOpened, IsBorn}
use Rattle.member_laws.proofs.Lives.{born_step}
use Rattle.member_laws.specs.Runs.{Cluster, LeadsTo, IsReached}
use Rattle.member_laws.proofs.Tables.{get_put}
use Rattle.member_laws.proofs.Numbers.{never_falls, never_falls_by_older}
use Rattle.member_laws.proofs.Confirms.{stays_confirmed}
use Rattle.member_laws.proofs.Revivals.{HeldOver, stays_over, confirmed_over, alive_over}
use Rattle.member_laws.proofs.Healths.{waits_step}

-- ---- any machine

left_either : {C : Type 0} (E : Key → C → Type 0) (pending : FinMap key_cmp C) (q : Key) (d : C) (b : Bool) → HoldsOfAll E pending → cond b None (get pending q) ≡ Some d → E q d
left_either E pending q d true all here = absurd (false≢true (ap is_some here))
left_either E pending q d false all here = all q d here

all_left : {C : Type 0} (E : Key → C → Type 0) (pending : FinMap key_cmp C) (k : Key) → HoldsOfAll E pending → HoldsOfAll E (remove pending k)
all_left E pending k all q d here = left_either E pending q d (eq_by_cmp key_cmp q k) all (sym (get-remove key_total pending k q) ∙ here)

module _ {S C R : Type 0} (step : Machine S C R) (P : ℕ → S → Type 0) (E : Key → C → Type 0) (end : ℕ)
    (keeps : (k : Key) (c : C) (t : S) → k.at ≤ end → E k c → P k.to t → P k.to (step k c t).state × AllByRecursion (λ e. E e.0 e.1) (step k c t).events) where
  -- the one fact holds of each member, the other of each event that pends
  pub record IsKept (w : World S C) : Type 0 where
    pub members : (m : ℕ) (t : S) → get w.members m ≡ Some t → P m t
    pub events : HoldsOfAll E w.pending

  one_of : (members : FinMap nat_cmp S) (m n : ℕ) (new t : S) (b : Bool) → eqb n m ≡ b → P m new → ((t : S) → get members n ≡ Some t → P n t)
      → cond b (Some new) (get members n) ≡ Some t → P n t
  one_of members m n new t true e own old here = subst (λ r. P r t) (sym (eqb-true n m e)) (subst (P m) (same_Some new t here) own)
  one_of members m n new t false e own old here = old t here

  pub kept_after : (w : World S C) (k : Key) (c : C) (held : Option S) → get w.members k.to ≡ held → k.at ≤ end → E k c → IsKept w → IsKept (settled w k (option_map (step k c) held))
  kept_after w k c None none in_time here kept = record { members = kept.members; events = all_left E w.pending k kept.events }
  kept_after w k c (Some t) is in_time here kept =
      let made = keeps k c t in_time here (kept.members k.to t is) in
      record {
        members = λ n u at. one_of w.members k.to n (step k c t).state u (eqb n k.to) refl made.0 (kept.members n) (sym (get_put w.members k.to n (step k c t).state) ∙ at);
        events = all_with_events E (step k c t).events (remove w.pending k) (all_left E w.pending k kept.events) made.1;
      }

  pub run_kept : (ks : List Key) (w v : World S C) (rows : List R) → Run step end w ks rows v → IsKept w → IsKept v
  run_kept [] w v rows run kept = subst IsKept (sym run.0) kept
  run_kept (k ∷ ks) w v rows run kept =
      let next = run.4 in
      run_kept ks run.0 v run.2 run.5
      (subst IsKept (sym next.world) (kept_after w k next.content (get w.members k.to) refl run.3 (kept.events k next.content next.here) kept))

  -- and what the rows of each step are, those of the run are
  module _ (Q : R → Type 0) (tells : (k : Key) (c : C) (t : S) → E k c → P k.to t → AllByRecursion Q (step k c t).rows) where
    rows_after : (w : World S C) (k : Key) (c : C) (held : Option S) → get w.members k.to ≡ held → E k c → IsKept w → AllByRecursion Q (rows_of (option_map (step k c) held))
    rows_after w k c None is here kept = tt
    rows_after w k c (Some t) is here kept = tells k c t here (kept.members k.to t is)

    pub run_rows : (ks : List Key) (w v : World S C) (rows : List R) → Run step end w ks rows v → IsKept w → AllByRecursion Q rows
    run_rows [] w v rows run kept = subst (AllByRecursion Q) (sym run.1) tt
    run_rows (k ∷ ks) w v rows run kept =
        let next = run.4 in
        let here = kept.events k next.content next.here in
        let made = subst (AllByRecursion Q) (sym next.made) (rows_after w k next.content (get w.members k.to) refl here kept) in
        let more = run_rows ks run.0 v run.2 run.5 (subst IsKept (sym next.world) (kept_after w k next.content (get w.members k.to) refl run.3 here kept)) in
        subst (AllByRecursion Q) (sym run.6) (all_append Q run.1 run.2 made more)

-- ---- the opening world

opened_cases : (s : Setup) (a m : ℕ) (t : State) (b : Bool) (rest : Option State) → eqb m a ≡ b → (rest ≡ Some t → t ≡ opening_state s m)
    → cond b (Some (opening_state s a)) rest ≡ Some t → t ≡ opening_state s m
opened_cases s a m t true rest e later is = sym (same_Some (opening_state s a) t is) ∙ ap (opening_state s) (sym (eqb-true m a e))
opened_cases s a m t false rest e later is = later is

pub opened : (s : Setup) (xs : List ℕ) (m : ℕ) (t : State) → get (from_entries {R = nat_cmp} (map (λ n. (n, opening_state s n)) xs)) m ≡ Some t → t ≡ opening_state s m
opened s [] m t here = absurd (false≢true (sym (ap is_some (get-empty nat_cmp m)) ∙ ap is_some here))
opened s (x ∷ xs) m t here =
    opened_cases s x m t (eqb m x) (get (from_entries {R = nat_cmp} (map (λ n. (n, opening_state s n)) xs)) m) refl (opened s xs m t)
    (sym (get_put (from_entries {R = nat_cmp} (map (λ n. (n, opening_state s n)) xs)) x m (opening_state s x)) ∙ here)

-- ---- facts of states alone

abbrev AnyEvent : Key → EventKind → Type 0
AnyEvent k c = Unit {0}

all_any : (es : List (Key × EventKind)) → AllByRecursion (λ e. AnyEvent e.0 e.1) es
all_any [] = tt
all_any (e ∷ es) = (tt, all_any es)

waiting_opened : (s : Setup) (w : Cluster) → IsReached s w → (m : ℕ) (t : State) → get w.members m ≡ Some t → WaitsAsOpened s m t
waiting_opened s w reached =
    (run_kept (step s) (WaitsAsOpened s) AnyEvent s.end (λ k c t _ _ h. (waits_step s k c t h, all_any _)) reached.0 (opening s) w reached.1 reached.2
    (record { members = λ m t here _. opened s (numbers s) m t here; events = λ k c here. tt })).members

pub opening_born : (s : Setup) (m : ℕ) → IsBorn (opening_state s m)
unfolding opening_state
opening_born s m = by_profile (profile_of s)
  where
    one_or_two : (o : Option ℕ) → 0 < option_map_or (λ at. 2) o 1
    one_or_two None = omega arith
    one_or_two (Some at) = omega arith

    by_profile : (profile : Profile) → 0 < first_number_by profile s m
    by_profile Papers = one_or_two (option_or (crash_of s m) (leave_of s m))
    by_profile Memberlist = one_or_two (option_or (crash_of s m) (leave_of s m))
    by_profile Hashicorp = omega arith

pub all_born : (s : Setup) (w : Cluster) → IsReached s w → (m : ℕ) (t : State) → get w.members m ≡ Some t → IsBorn t
all_born s w reached =
    (run_kept (step s) (λ m t. IsBorn t) AnyEvent s.end (λ k c t _ _ h. ((born_step s k c t h).1, all_any _)) reached.0 (opening s) w reached.1 reached.2
    (record { members = λ m t here. subst IsBorn (sym (opened s (numbers s) m t here)) (opening_born s m); events = λ k c here. tt })).members

-- no less than in the earlier world
abbrev NoLessThan : Setup → Cluster → ℕ → State → Type 0
NoLessThan s w m u = WaitsAsOpened s m u × IsBorn u × ((t : State) → get w.members m ≡ Some t → (t.life.birth ≤ u.life.birth) × (t.life.birth ≡ u.life.birth → t.incarnation ≤ u.incarnation))

-- the same by the older rules, by which nobody starts again
abbrev AtLeastAs : Setup → Cluster → ℕ → State → Type 0
AtLeastAs s w m u = WaitsAsOpened s m u × ((t : State) → get w.members m ≡ Some t → t.incarnation ≤ u.incarnation)

abbrev AsConfirmed : Setup → Cluster → ℕ → State → Type 0
AsConfirmed s w m u =
    WaitsAsOpened s m u × ((t : State) (q i : ℕ) → get w.members m ≡ Some t → get t.table q ≡ Some (Confirm, i) → get u.table q ≡ Some (Confirm, i))

abbrev AsRevived : Setup → Cluster → ℕ → State → Type 0
AsRevived s w m u = WaitsAsOpened s m u × ((t : State) (q j : ℕ) → get w.members m ≡ Some t → get t.table q ≡ Some (Confirm, j) → HeldOver q j u.table)

module _ (s : Setup) (w v : Cluster) (reached : IsReached s w) (leads : LeadsTo s w v) (m : ℕ) (t u : State) (before : get w.members m ≡ Some t) (behind : get v.members m ≡ Some u) where
  -- what is no less than in the earlier world stays so
  rises_on : (k : Key) (c : EventKind) (x y : State) → WaitsAsOpened s k.to x → IsBorn x → (y.life.birth ≤ x.life.birth) × (y.life.birth ≡ x.life.birth → y.incarnation ≤ x.incarnation)
      → (y.life.birth ≤ (step s k c x).state.life.birth) × (y.life.birth ≡ (step s k c x).state.life.birth → y.incarnation ≤ (step s k c x).state.incarnation)
  rises_on k c x y waits born h =
      let later = (born_step s k c x born).0 in
      let first = h.0 in (
        omega (arith, later, first),
        λ same. let one : (step s k c x).state.life.birth ≡ x.life.birth = omega (arith, later, first, same) in
            let least = h.1 (omega (arith, later, first, same)) in
            let more = never_falls s k c x waits born one in
            omega (arith, least, more),
      )

  pub rises : (t.life.birth ≤ u.life.birth) × (t.life.birth ≡ u.life.birth → t.incarnation ≤ u.incarnation)
  rises =
      ((run_kept (step s) (NoLessThan s w) AnyEvent s.end
      (λ k c x _ _ h. ((waits_step s k c x h.0, (born_step s k c x h.1).1, λ y here. rises_on k c x y h.0 h.1 (h.2 y here)), all_any _))
      leads.0 w v leads.1 leads.2
      (record {
        members = λ n x here. (
          waiting_opened s w reached n x here,
          all_born s w reached n x here,
          λ y at. let same : x ≡ y = same_Some x y (sym here ∙ at) in (omega (arith, ap (λ (z : State). z.life.birth) same), λ _. omega (arith, ap (λ (z : State). z.incarnation) same)),
        );
        events = λ k c here. tt;
      })).members m u behind).2 t before

  pub rises_by_older : ¬ (profile_of s ≡ Hashicorp) → t.incarnation ≤ u.incarnation
  rises_by_older older =
      ((run_kept (step s) (AtLeastAs s w) AnyEvent s.end
      (λ k c x _ _ h. ((waits_step s k c x h.0, λ y here. let least = h.1 y here in let more = never_falls_by_older s k c x older h.0 in omega (arith, least, more)), all_any _))
      leads.0 w v leads.1 leads.2
      (record {
        members = λ n x here. (waiting_opened s w reached n x here, λ y at. let same : x ≡ y = same_Some x y (sym here ∙ at) in omega (arith, ap (λ (z : State). z.incarnation) same));
        events = λ k c here. tt;
      })).members m u behind).1 t before

  pub confirmed_stays : profile_of s ≡ Papers → (q i : ℕ) → get t.table q ≡ Some (Confirm, i) → get u.table q ≡ Some (Confirm, i)
  confirmed_stays papers q i =
      ((run_kept (step s) (AsConfirmed s w) AnyEvent s.end
      (λ k c x _ _ h. ((waits_step s k c x h.0, λ y q i here at. stays_confirmed s papers k c x q i h.0 (h.1 y q i here at)), all_any _))
      leads.0 w v leads.1 leads.2
      (record {
        members = λ n x here. (waiting_opened s w reached n x here, λ y q i there at. ap (λ (z : State). get z.table q) (same_Some x y (sym here ∙ there)) ∙ at);
        events = λ k c here. tt;
      })).members m u behind).1 t q i before

  pub revived_later : profile_of s ≡ Memberlist → (q j i : ℕ) → get t.table q ≡ Some (Confirm, j) → get u.table q ≡ Some (Alive, i) → j < i
  revived_later rules q j i confirmed alive =
      alive_over q j i u.table
      (((run_kept (step s) (AsRevived s w) AnyEvent s.end
      (λ k c x _ _ h. ((waits_step s k c x h.0, λ y q j here at. stays_over s rules k c x q j h.0 (h.1 y q j here at)), all_any _))
      leads.0 w v leads.1 leads.2
      (record {
        members = λ n x here. (waiting_opened s w reached n x here, λ y q j there at. confirmed_over q j x.table (ap (λ (z : State). get z.table q) (same_Some x y (sym here ∙ there)) ∙ at));
        events = λ k c here. tt;
      })).members m u behind).1 t q j before confirmed)
      alive
