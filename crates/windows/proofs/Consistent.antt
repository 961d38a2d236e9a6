-- A window leaves a part as a run does: its members are the scenario's, and so is all that pends.
use Rattle.std.proofs.Common.{◌≡◌, ◌≢◌, ℕ, ◌+◌, ◌<◌, ◌≤◌, Bool, true, false, not, cond, List, [], ◌∷◌, Option, Some, None, append-nil, ap, ◌∙◌, sym, subst, refl, arith}
use Rattle.std.specs.Option.{option_map, option_map_or, IfSome}
use Rattle.std.specs.List.{AllByRecursion}
use Rattle.std.specs.Ordering.{nat_cmp, eq_by_cmp}
use Rattle.std.specs.Cmp.{nat_cmp_total, unsigned_tied}
use Rattle.std.specs.FinMap.{FinMap, get, contains_key, remove, get-insert}
use Rattle.std.proofs.lemmas.Bool.{eq-eqb}
use Rattle.std.proofs.lemmas.Map.Lookups.{exact_unsigned}
use Rattle.std.proofs.lemmas.Map.Views.{tells_apart}
use Rattle.std.proofs.lemmas.Option.{same_Some}
use Rattle.base.specs.declared.key.Key.{Key}
use Rattle.base.specs.Order.{key_cmp}
use Rattle.base.specs.World.{World, IsPending, settled, outcome, events_of, Run}
use Rattle.base.specs.Run.{contains-remove, holds-with_events}
use Rattle.base.specs.Rising.{IsRising, AreNew}
use Rattle.base.proofs.Rising.{all_append, all_weaker}
use Rattle.incarnation.specs.declared.Claim.{Claim}
use Rattle.scenario.specs.Setup.{Setup, IsSound, member_count}
use Rattle.links.specs.declared.table.Links.{Links}
use Rattle.links.specs.Arrival.{AreLinksOf}
use Rattle.trace.specs.declared.row.Row.{Row}
use Rattle.member.specs.declared.event_kind.EventKind.{EventKind}
use Rattle.member.specs.Here.{IsSoundSetting, HoldsMembers}
use Rattle.member.specs.State.{State, is_probed}
use Rattle.lifeguard.specs.declared.probe.Probe.{Probe}
use Rattle.member.specs.Step.{step}
use Rattle.member.proofs.Fair.{steps_numbered}
use Rattle.member_laws.specs.Words.{IsConsistent, IsAmongMembers, is_live}
use Rattle.member_laws.proofs.Carried.{all_filter}
use Rattle.member_laws.proofs.Reached.{IsMember, kept_step}
use Rattle.member_laws.proofs.Runs.{run_kept}
use Rattle.windows.specs.Parts.{PartStep, PartRun, for_own, for_others, kept_by}
use Rattle.windows.specs.Window.{is_own, IsConsistentPart}
use Rattle.windows.proofs.PartRuns.{Kept, next_of, own_step}

-- who isn't probed is not held as living
none_living : (held : Option (Claim × ℕ)) → is_probed held ≡ false → ◌≡◌ {A = ℕ} (cond (option_map_or (λ (h : Claim × ℕ). is_live h.0) held false) 1 0) 0
none_living None absent = refl
none_living (Some h) absent = ap (λ b. cond b 1 0) absent

-- the probe, if there is one, is of a member
aimed : (n : ℕ) (probe : Option Probe) → ((p : Probe) → probe ≡ Some p → p.target < n) → IfSome probe (λ p. p.target < n)
aimed n None target = tt
aimed n (Some p) target = target p refl

-- a consistent state holds members of the scenario
pub holds_members : (s : Setup) (m : ℕ) (t : State) → IsConsistent s m t → HoldsMembers s m t
holds_members s m t h = record { others = h.others; listed = λ q absent. h.probes q ∙ none_living (get t.table q) absent; sound = h.order; target = aimed (member_count s) t.probe h.target; asked = h.life.asked }

-- the event may be handled here
pub event_here : (s : Setup) (l : Links) (bound : ℕ) (k : Key) (c : EventKind) → IsSound s → AreLinksOf l s → bound ≤ s.end + 1 → k.at < bound → IsAmongMembers s k c → IsSoundSetting s l k
event_here s l bound k c sound links in_time early among =
    record { sound = sound; links = links; early = omega (arith, in_time, early, sound.end); receiver = among.receiver; sender = among.sender }

-- ---- numbers

-- the sender, where it is one of the part, has used the number
abbrev Numbered : World State EventKind → Key → Type 0
Numbered p q = (t : State) → get p.members q.from ≡ Some t → q.number < t.next_number

differ : (e f : Key × EventKind) → e.0.number < f.0.number → e.0 ≢ f.0
differ e f h same = let n : e.0.number ≡ f.0.number = ap (λ (q : Key). q.number) same in omega arith

all_differ : (es : List (Key × EventKind)) → IsRising (λ e f. e.0.number < f.0.number) es → IsRising (λ e f. e.0 ≢ f.0) es
all_differ [] is = tt
all_differ (e ∷ es) is = (all_weaker (λ f. e.0.number < f.0.number) (λ f. e.0 ≢ f.0) (differ e) es is.0, all_differ es is.1)

module _ (s : Setup) (sound : IsSound s) (p : World State EventKind) (k : Key) (c : EventKind) where
  unused : (t : State) → get p.members k.to ≡ Some t → (q : Key) → ((q : Key) → IsPending p q → Numbered p q) → q.from ≡ k.to → t.next_number ≤ q.number
      → (b : Bool) → contains_key (remove p.pending k) q ≡ b → b ≡ false
  unused t receiver q all from h true here =
      let low : q.number < t.next_number = all q (contains-remove p.pending k q here).0 t (ap (get p.members) from ∙ receiver) in
      absurd (omega arith)
  unused t receiver q all from h false here = refl

  new_either : ((q : Key) → IsPending p q → Numbered p q) → (o : Option State) → get p.members k.to ≡ o → AreNew (remove p.pending k) (events_of (option_map (step s k c) o))
  new_either all None none = record { unlike_pending = tt; unlike_each_other = tt }
  new_either all (Some t) is = record {
    unlike_pending =
        all_weaker _ (λ e. contains_key (remove p.pending k) e.0 ≡ false) (λ e made. unused t is e.0 all made.0 made.1 (contains_key (remove p.pending k) e.0) refl)
        (step s k c t).events ((steps_numbered s sound).made k c t);
    unlike_each_other = all_differ (step s k c t).events ((steps_numbered s sound).apart k c t);
  }

  -- the events that are made of an event of the part are new to it
  pub new_made : (taken : FinMap key_cmp EventKind) (made : List (Key × EventKind)) → taken ≡ remove p.pending k → made ≡ events_of (outcome (step s) p k c) → IsConsistentPart s p → AreNew taken made
  new_made taken made is_taken is_made is =
      subst (λ m. AreNew m made) (sym is_taken) (subst (AreNew (remove p.pending k)) (sym is_made) (new_either is.numbered (get p.members k.to) refl))

  module _ (owns : ℕ → Bool) where
    module _ (t : State) (receiver : get p.members k.to ≡ Some t) where
      abbrev after : World State EventKind
      after = settled p k (Some (kept_by owns (step s k c t)))

      old_number : (q : Key) (b : Bool) (u : State) → eq_by_cmp nat_cmp q.from k.to ≡ b → Numbered p q → cond b (Some (step s k c t).state) (get p.members q.from) ≡ Some u → q.number < u.next_number
      old_number q true u e used here =
          let low : q.number < t.next_number = used t (ap (get p.members) (tells_apart exact_unsigned q.from k.to e) ∙ receiver) in
          let grows = (steps_numbered s sound).grows k c t in
          let same : (step s k c t).state.next_number ≡ u.next_number = ap (λ (t : State). t.next_number) (same_Some (step s k c t).state u here) in
          omega arith
      old_number q false u e used here = used u here

      new_number : (q : Key) (u : State) → q.from ≡ k.to → q.number < (step s k c t).state.next_number → cond (eq_by_cmp nat_cmp q.from k.to) (Some (step s k c t).state) (get p.members q.from) ≡ Some u
          → q.number < u.next_number
      new_number q u from low here =
          let tied : eq_by_cmp nat_cmp q.from k.to ≡ true = unsigned_tied q.from k.to ∙ eq-eqb q.from k.to from in
          let same : (step s k c t).state.next_number ≡ u.next_number =
          ap (λ (t : State). t.next_number) (same_Some (step s k c t).state u (ap (λ b. cond b (Some (step s k c t).state) (get p.members q.from)) (sym tied) ∙ here)) in
          omega arith

      in_after : (q : Key) → ((u : State) → cond (eq_by_cmp nat_cmp q.from k.to) (Some (step s k c t).state) (get p.members q.from) ≡ Some u → q.number < u.next_number) → Numbered after q
      in_after q h u here = h u (sym (get-insert nat_cmp_total p.members k.to (step s k c t).state q.from) ∙ here)

      numbered_after : ((q : Key) → IsPending p q → Numbered p q) → (q : Key) → IsPending after q → Numbered after q
      numbered_after all =
          holds-with_events (Numbered after) (for_own owns (step s k c t).events) (remove p.pending k)
          (λ q here. in_after q (λ u at. old_number q (eq_by_cmp nat_cmp q.from k.to) u refl (all q (contains-remove p.pending k q here).0) at))
          (all_filter (λ e. Numbered after e.0) (λ e. owns e.0.to) (step s k c t).events
          (all_weaker _ (λ e. Numbered after e.0) (λ e made. in_after e.0 (λ u at. new_number e.0 u made.0 made.2 at)) (step s k c t).events ((steps_numbered s sound).made k c t)))

    numbered_either : ((q : Key) → IsPending p q → Numbered p q) → (o : Option State) → get p.members k.to ≡ o → (v : World State EventKind)
        → v ≡ settled p k (option_map (kept_by owns) (option_map (step s k c) o)) → (q : Key) → IsPending v q → Numbered v q
    numbered_either all None none v is = subst (λ v. (q : Key) → IsPending v q → Numbered v q) (sym is) (λ q here. all q (contains-remove p.pending k q here).0)
    numbered_either all (Some t) here v is = subst (λ v. (q : Key) → IsPending v q → Numbered v q) (sym is) (numbered_after t here all)

-- ---- a window

module _ (s : Setup) (sound : IsSound s) (owns : ℕ → Bool) (bound : ℕ) (in_time : bound ≤ s.end + 1) where
  keeps_own : (k : Key) (c : EventKind) (t : State) → k.at ≤ s.end → IsAmongMembers s k c → IsMember s k.to t
      → IsMember s k.to (step s k c t).state × AllByRecursion (λ e. IsAmongMembers s e.0 e.1) (for_own owns (step s k c t).events)
  keeps_own k c t early among is =
      let kept = kept_step s sound k c t early among is in
      (kept.0, all_filter (λ e. IsAmongMembers s e.0 e.1) (λ e. owns e.0.to) (step s k c t).events kept.1)

  -- who is one of these is a member of the part
  abbrev Owned : World State EventKind → Type 0
  Owned p = (q : ℕ) → owns q ≡ true → is_own p q ≡ true

  owned_still : (p v : World State EventKind) (k : Key) (out : List (Key × EventKind)) (rows : List Row) → PartStep (step s) owns bound p k out rows v → Owned p → Owned v
  owned_still p v k out rows is owned q h = own_step (step s) owns bound p v k out rows is q ∙ owned q h

  -- what pends for its members pends for them after a step too
  module _ (p : World State EventKind) (k : Key) (owned : Owned p) (before : (q : Key) → IsPending p q → is_own p q.to ≡ true) where
    one_owned : (e : Key × EventKind) (rest : List (Key × EventKind)) (b : Bool) → owns e.0.to ≡ b → AllByRecursion (λ e. is_own p e.0.to ≡ true) rest → AllByRecursion (λ e. is_own p e.0.to ≡ true) (cond b (e ∷ rest) rest)
    one_owned e rest true h all = (owned e.0.to h, all)
    one_owned e rest false h all = all

    all_owned : (es : List (Key × EventKind)) → AllByRecursion (λ e. is_own p e.0.to ≡ true) (for_own owns es)
    all_owned [] = tt
    all_owned (e ∷ es) = one_owned e (for_own owns es) (owns e.0.to) refl (all_owned es)

    own_either : (v : World State EventKind) → ((q : ℕ) → is_own v q ≡ is_own p q) → (c : EventKind) (o : Option State)
        → v ≡ settled p k (option_map (kept_by owns) (option_map (step s k c) o)) → (q : Key) → IsPending v q → is_own v q.to ≡ true
    own_either v same c None is q here = same q.to ∙ before q (contains-remove p.pending k q (subst (λ (w : World State EventKind). IsPending w q) is here)).0
    own_either v same c (Some t) is q here =
        same q.to
        ∙ holds-with_events (λ (r : Key). is_own p r.to ≡ true) (for_own owns (step s k c t).events) (remove p.pending k)
        (λ r there. before r (contains-remove p.pending k r there).0) (all_owned (step s k c t).events) q
        (subst (λ (w : World State EventKind). IsPending w q) is here)

  pub consistent_step : (p v : World State EventKind) (k : Key) (out : List (Key × EventKind)) (rows : List Row) → PartStep (step s) owns bound p k out rows v → Owned p → IsConsistentPart s p → IsConsistentPart s v
  consistent_step p v k out rows is owned before =
      let early : k.at ≤ s.end = omega (arith, is.early, in_time) in
      let run : Run (Kept (step s) owns) s.end p (k ∷ []) rows v = (v, rows, [], early, next_of (step s) owns bound p v k out rows is, (refl, refl), sym (append-nil rows)) in
      let after =
      run_kept (Kept (step s) owns) (IsMember s) (IsAmongMembers s) s.end keeps_own (k ∷ []) p v rows run (record { members = before.members; events = before.events }) in
      record {
        members = after.members;
        events = after.events;
        own = own_either p k owned before.own v (own_step (step s) owns bound p v k out rows is) is.content (get p.members k.to) is.world;
        numbered = numbered_either s sound p k is.content owns before.numbered (get p.members k.to) refl v is.world;
      }

  -- a part that was consistent before a window is so wherever the window comes
  pub consistent_run : (ks : List Key) (p v : World State EventKind) (out : List (Key × EventKind)) (rows : List Row) → PartRun (step s) owns bound p ks out rows v → Owned p → IsConsistentPart s p → IsConsistentPart s v
  consistent_run [] p v out rows run owned before = subst (IsConsistentPart s) (sym run.0) before
  consistent_run (k ∷ ks) p v out rows run owned before =
      consistent_run ks run.0 v run.2 run.4 run.6 (owned_still p run.0 k run.1 run.3 run.5 owned) (consistent_step p run.0 k run.1 run.3 run.5 owned before)

  sent_among : (p : World State EventKind) (k : Key) (c : EventKind) (o : Option State) → get p.members k.to ≡ o → k.at ≤ s.end → IsAmongMembers s k c → IsConsistentPart s p
      → AllByRecursion (λ e. IsAmongMembers s e.0 e.1) (for_others owns (events_of (option_map (step s k c) o)))
  sent_among p k c None none early among before = tt
  sent_among p k c (Some t) here early among before =
      all_filter (λ e. IsAmongMembers s e.0 e.1) (λ e. not (owns e.0.to)) (step s k c t).events (kept_step s sound k c t early among (before.members k.to t here)).1

  -- and what it sends out is among members of the scenario
  pub among_run : (ks : List Key) (p v : World State EventKind) (out : List (Key × EventKind)) (rows : List Row) → PartRun (step s) owns bound p ks out rows v → Owned p → IsConsistentPart s p
      → AllByRecursion (λ e. IsAmongMembers s e.0 e.1) out
  among_run [] p v out rows run owned before = subst (AllByRecursion (λ e. IsAmongMembers s e.0 e.1)) (sym run.1) tt
  among_run (k ∷ ks) p v out rows run owned before =
      let is = run.5 in
      let early : k.at ≤ s.end = omega (arith, is.early, in_time) in
      let sent = subst (AllByRecursion (λ e. IsAmongMembers s e.0 e.1)) (sym is.sent)
      (sent_among p k is.content (get p.members k.to) refl early (before.events k is.content is.here) before) in
      let more = among_run ks run.0 v run.2 run.4 run.6 (owned_still p run.0 k run.1 run.3 is owned) (consistent_step p run.0 k run.1 run.3 is owned before) in
      subst (AllByRecursion (λ e. IsAmongMembers s e.0 e.1)) (sym run.7) (all_append (λ e. IsAmongMembers s e.0 e.1) run.1 run.2 sent more)
