-- A part of one member, its windows, and an event that comes to it from elsewhere: what the tests keep.
use Rattle.std.proofs.Common.{◌≡◌, ◌≢◌, ℕ, ◌+◌, ◌<◌, ◌≤◌, Bool, true, false, cond, nat_eq, ◌++◌, inl, inr, List, [], ◌∷◌, length, map, Option, Some, None, Result, Ok, Err, OnOk, ap, ◌∙◌, sym, subst, refl, arith}
use Rattle.std.specs.Option.{is_some, option_map_or, option_or, IfSome}
use Rattle.std.specs.List.{AllByRecursion}
use Rattle.std.specs.Ordering.{nat_cmp, eq_by_cmp, is_lt}
use Rattle.std.specs.Cmp.{nat_cmp_total, unsigned_tied}
use Rattle.std.specs.declared.cmp.Ordering.{Ordering}
use Rattle.std.specs.declared.cmp.Ordering.TheVariants.{Less, Equal, Greater}
use Rattle.std.specs.FinMap.{FinMap, empty, get, contains_key, insert, get-insert, get-empty}
use Rattle.std.proofs.lemmas.Bool.{false≢true, eq-eqb}
use Rattle.std.proofs.lemmas.Option.{same_Some}
use Rattle.std.proofs.lemmas.Map.Lookups.{exact_unsigned}
use Rattle.std.proofs.lemmas.Map.Views.{tells_apart}
use Rattle.base.specs.declared.key.Key.{Key}
use Rattle.base.specs.Order.{key_cmp, key_total}
use Rattle.base.specs.World.{World, IsPending}
use Rattle.base.specs.Run.{tells}
use Rattle.base.proofs.Rising.{all_append}
use Rattle.base.proofs.Kept.{HoldsOfAll, all_with_events}
use Rattle.trace.specs.declared.row.Row.{Row}
use Rattle.base.specs.declared.profile.Profile.{Profile}
use Rattle.base.specs.declared.profile.Profile.TheVariants.{Papers, Memberlist, Hashicorp}
use Rattle.scenario.specs.Setup as setup
use Rattle.scenario.specs.Setup.{Setup, IsSound, IsSoundEvent, member_count, crash_of, leave_of}
use Rattle.scenario.specs.Profile.{profile_of}
use Rattle.scenario.specs.Script.{asked_by}
use Rattle.scenario.specs.declared.script.ScriptKind.{ScriptKind}
use Rattle.scenario.specs.declared.script.ScriptKind.TheVariants as script
use Rattle.scenario.specs.declared.script.ScriptEvent.{ScriptEvent}
use Rattle.member.specs.Here.{MentionsMembers}
use Rattle.member.specs.declared.event_kind.EventKind.{EventKind}
use Rattle.member.specs.declared.event_kind.EventKind.TheVariants.{Crash, Leave}
use Rattle.member.specs.declared.event.Event.{Event}
use Rattle.member.specs.State.{State}
use Rattle.member.specs.StateOf.{pair_of}
use Rattle.member.specs.Step.{step}
use Rattle.member.specs.Opening.{opening_state, first_number, first_number_by, ending_event, script_of, content_of, numbered_from, script_by}
use Rattle.member_laws.specs.Words.{IsConsistent, IsAmongMembers}
use Rattle.member_laws.proofs.Consistency.{opening_consistent}
use Rattle.member_laws.proofs.Opened.{two_after}
use Rattle.member_laws.proofs.Scripts.{events_so}
use Rattle.worker_queue.specs.Queue.{IsLeastKey}
use Rattle.windows.specs.Admitting.{AreFromBelow, with_member}
use Rattle.windows.specs.Window.{is_own, IsConsistentPart, RunsWindow}
use Rattle.windows.proofs.PartRuns.{own_run}

module _ (s : Setup) (m : ℕ) (there : m < member_count s) (sound : IsSound s) where
  opened_number : (opening_state s m).next_number ≡ first_number_by (profile_of s) s m
  unfolding opening_state
  opened_number = refl

  -- an event of the member's script, with a number that it has used where it uses this one first
  abbrev OwnBelow : ℕ → Key → EventKind → Type 0
  OwnBelow n k c = IsAmongMembers s k c × (k.to ≡ m) × (k.number < n)

  abbrev Own : Key → EventKind → Type 0
  Own k c = OwnBelow (opening_state s m).next_number k c

  first_after : (ending : Option ℕ) → 0 < option_map_or (λ at. 2) ending 1
  first_after None = omega arith
  first_after (Some at) = omega arith

  ending_own : (content : EventKind) (ending : Option ℕ) → MentionsMembers (member_count s) content → ((at : ℕ) → ending ≡ Some at → first_number s m ≡ 2)
      → AllByRecursion {X = Key × EventKind} (λ e. OwnBelow (first_number s m) e.0 e.1) (ending_event content m ending)
  ending_own content None names two = tt
  ending_own content (Some at) names two = let is = two at refl in ((record { receiver = there; sender = there; names = names }, refl, omega (arith, is)), tt)

  endings_own : AllByRecursion {X = Key × EventKind} (λ e. OwnBelow (first_number s m) e.0 e.1) (ending_event Crash m (crash_of s m) ++ ending_event Leave m (leave_of s m))
  endings_own =
      all_append (λ e. OwnBelow (first_number s m) e.0 e.1) (ending_event Crash m (crash_of s m)) (ending_event Leave m (leave_of s m))
      (ending_own Crash (crash_of s m) tt (λ at is. two_after s (crash_of s m) (leave_of s m) at (inl is)))
      (ending_own Leave (leave_of s m) tt (λ at is. two_after s (crash_of s m) (leave_of s m) at (inr is)))

  -- who crashes or leaves but once
  ending_script_own : AllByRecursion {X = Key × EventKind} (λ e. OwnBelow (first_number s m) e.0 e.1) (script_of s m)
  ending_script_own =
      let first = first_after (option_or (crash_of s m) (leave_of s m)) in ((record { receiver = there; sender = there; names = tt }, refl, first), endings_own)

  -- whom a script's event names, a member
  content_names : (kind : ScriptKind) → IfSome (asked_by kind) (λ c. c < member_count s) → MentionsMembers (member_count s) (content_of kind)
  content_names script.Crash h = tt
  content_names script.Leave h = tt
  content_names (script.Restart contact) h = h

  asks_member : (q : ℕ) (o : Option ℕ) → IfSome o (λ c. (c < member_count s) × (c ≢ q)) → IfSome o (λ c. c < member_count s)
  asks_member q None h = tt
  asks_member q (Some c) h = h.0

  numbered_own : (number n : ℕ) (es : List ScriptEvent) → number + length es ≤ n → AllByRecursion (λ (e : ScriptEvent). (e.member ≡ m) × IsSoundEvent s e) es
      → AllByRecursion {X = Key × EventKind} (λ e. OwnBelow n e.0 e.1) (numbered_from m number es)
  numbered_own number n [] few h = tt
  numbered_own number n (e ∷ es) few h =
      ((record { receiver = there; sender = there; names = content_names e.kind (asks_member e.member (asked_by e.kind) h.0.1.contact) }, refl, omega (arith, few)), numbered_own (number + 1) n es (omega (arith, few)) h.1)

  script_own_by : (profile : Profile) → AllByRecursion {X = Key × EventKind} (λ e. OwnBelow (first_number_by profile s m) e.0 e.1) (script_by profile s m)
  script_own_by Papers = ending_script_own
  script_own_by Memberlist = ending_script_own
  script_own_by Hashicorp = (
    (record { receiver = there; sender = there; names = tt }, refl, omega arith),
    numbered_own 1 (1 + length (setup.script_of s m)) (setup.script_of s m) (omega arith) (events_so (IsSoundEvent s) s sound.events m),
  )

  script_own : AllByRecursion {X = Key × EventKind} (λ e. Own e.0 e.1) (script_by (profile_of s) s m)
  script_own =
      subst (λ n. AllByRecursion {X = Key × EventKind} (λ e. OwnBelow n e.0 e.1) (script_by (profile_of s) s m)) (sym opened_number) (script_own_by (profile_of s))

  abbrev pub alone : World State EventKind
  alone = with_member s m (record { members = empty; pending = empty })

  own_all : HoldsOfAll Own alone.pending
  own_all = all_with_events Own (script_by (profile_of s) s m) empty (λ k c here. absurd (false≢true (ap is_some (sym (get-empty key_cmp k) ∙ here)))) script_own

  own_pending : (q : Key) → IsPending alone q → (q.to ≡ m) × (q.number < (opening_state s m).next_number)
  own_pending q = by_value (get alone.pending q) refl
    where
      by_value : (o : Option EventKind) → get alone.pending q ≡ o → is_some o ≡ true → (q.to ≡ m) × (q.number < (opening_state s m).next_number)
      by_value None is here = absurd (false≢true here)
      by_value (Some c) is here = let own = own_all q c is in (own.1, own.2)

  here_alone : (q : ℕ) → get alone.members q ≡ cond (eq_by_cmp nat_cmp q m) (Some (opening_state s m)) None
  here_alone q = get-insert nat_cmp_total empty m (opening_state s m) q ∙ ap (cond (eq_by_cmp nat_cmp q m) (Some (opening_state s m))) (get-empty nat_cmp q)

  member_either : (q : ℕ) (u : State) (b : Bool) → eq_by_cmp nat_cmp q m ≡ b → cond b (Some (opening_state s m)) None ≡ Some u → (q ≡ m) × (opening_state s m ≡ u)
  member_either q u true e is = (tells_apart exact_unsigned q m e, same_Some (opening_state s m) u is)
  member_either q u false e is = absurd (false≢true (ap is_some is))

  member_alone : (q : ℕ) (u : State) → get alone.members q ≡ Some u → (q ≡ m) × (opening_state s m ≡ u)
  member_alone q u here = member_either q u (eq_by_cmp nat_cmp q m) refl (sym (here_alone q) ∙ here)

  -- one member before its start, and its script
  pub alone_consistent : IsConsistentPart s alone
  alone_consistent = record {
    members = λ q u here. let is = member_alone q u here in
        subst (λ r. (r < member_count s) × IsConsistent s r u) (sym is.0) (there, subst (IsConsistent s m) is.1 (opening_consistent s m));
    events = λ q c here. (own_all q c here).0;
    own = λ q here. ap is_some (here_alone q.to ∙ ap (λ b. cond b (Some (opening_state s m)) None) (unsigned_tied q.to m ∙ eq-eqb q.to m (own_pending q here).0));
    numbered = λ q here u known. subst (λ (t : State). q.number < t.next_number) (member_alone q.from u known).1 (own_pending q here).1;
  }

  alone_either : (b : Bool) → is_some (cond b (Some (opening_state s m)) None) ≡ b
  alone_either true = refl
  alone_either false = refl

  pub alone_single : (q : ℕ) → is_own alone q ≡ nat_eq q m
  alone_single q = ap is_some (here_alone q) ∙ alone_either (eq_by_cmp nat_cmp q m) ∙ unsigned_tied q m

module _ (s : Setup) (p : World State EventKind) (k : Key) (c : EventKind) (before : IsConsistentPart s p) (among : IsAmongMembers s k c) (own : is_own p k.to ≡ true) (elsewhere : is_own p k.from ≡ false) where
  among_either : (q : Key) (d : EventKind) (b : Bool) → eq_by_cmp key_cmp q k ≡ b → cond b (Some c) (get p.pending q) ≡ Some d → IsAmongMembers s q d
  among_either q d true e is = subst (λ r. IsAmongMembers s r d) (sym (tells q k e)) (subst (IsAmongMembers s k) (same_Some c d is) among)
  among_either q d false e is = before.events q d is

  own_either : (q : Key) (b : Bool) → eq_by_cmp key_cmp q k ≡ b → is_some (cond b (Some c) (get p.pending q)) ≡ true → is_own p q.to ≡ true
  own_either q true e pends = ap (λ (r : Key). is_own p r.to) (tells q k e) ∙ own
  own_either q false e pends = before.own q pends

  used_either : (q : Key) (u : State) (b : Bool) → eq_by_cmp key_cmp q k ≡ b → is_some (cond b (Some c) (get p.pending q)) ≡ true → get p.members q.from ≡ Some u → q.number < u.next_number
  used_either q u true e pends known = absurd (false≢true (sym elsewhere ∙ ap is_some (ap (λ (r : Key). get p.members r.from) (sym (tells q k e)) ∙ known)))
  used_either q u false e pends known = before.numbered q pends u known

  -- an event that comes from elsewhere
  pub received_consistent : IsConsistentPart s (record { members = p.members; pending = insert p.pending k c })
  received_consistent = record {
    members = before.members;
    events = λ q d here. among_either q d (eq_by_cmp key_cmp q k) refl (sym (get-insert key_total p.pending k c q) ∙ here);
    own = λ q here. own_either q (eq_by_cmp key_cmp q k) refl (ap is_some (sym (get-insert key_total p.pending k c q)) ∙ here);
    numbered = λ q here u known. used_either q u (eq_by_cmp key_cmp q k) refl (ap is_some (sym (get-insert key_total p.pending k c q)) ∙ here) known;
  }

is_less : (o : Ordering) → is_lt o ≡ true → o ≡ Less
is_less Less e = refl
is_less Equal e = absurd (false≢true e)
is_less Greater e = absurd (false≢true e)

-- what comes before the least event isn't among the events
pub absent_if_first : (events : FinMap key_cmp EventKind) (k least : Key) (r : Bool) → IsLeastKey events least → r ≡ is_lt (key_cmp k least) → r ≡ true → contains_key events k ≡ false
absent_if_first events k least r is compared went = either (contains_key events k) refl
  where
    either : (b : Bool) → contains_key events k ≡ b → b ≡ false
    either true here = absurd (is.least k here (is_less (key_cmp k least) (sym compared ∙ went)))
    either false here = refl

pub absent_if_none : (events : FinMap key_cmp EventKind) (k : Key) → events ≡ empty → contains_key events k ≡ false
absent_if_none events k none = ap (λ m. contains_key m k) none ∙ ap is_some (get-empty key_cmp k)

-- before anybody comes, nothing pends
pub none_from_below : (events : FinMap key_cmp EventKind) (m : ℕ) → events ≡ empty → AreFromBelow events m
none_from_below events m none q here = absurd (false≢true (sym (absent_if_none events q none) ∙ here))

pub if_received : {E : Type 0} (s : Setup) (result : Result (Unit {0}) E) (after received : World State EventKind) → OnOk result (after ≡ received) → IsConsistentPart s received → OnOk result (IsConsistentPart s after)
if_received s (Ok _) after received is consistent = subst (IsConsistentPart s) (sym is) consistent
if_received s (Err _) after received is consistent = tt

-- the same for whose part it is: the members stay, and so does the number
pub if_single : {E : Type 0} (result : Result (Unit {0}) E) (before after received : World State EventKind) (number kept : ℕ) → received.members ≡ before.members
    → OnOk result (after ≡ received) → OnOk result (kept ≡ number) → ((m : ℕ) → is_own before m ≡ nat_eq m number) → OnOk result ((m : ℕ) → is_own after m ≡ nat_eq m kept)
if_single (Ok _) before after received number kept same is stays single =
    λ m. ap (λ (w : World State EventKind). is_own w m) is ∙ ap (λ ms. contains_key ms m) same ∙ single m ∙ ap (nat_eq m) (sym stays)
if_single (Err _) before after received number kept same is stays single = tt

-- a window leaves a part its members
pub same_own : (s : Setup) (bound : ℕ) (before after : World State EventKind) (out : List Event) (rows : List Row) → RunsWindow s bound before out rows after → (m : ℕ) → is_own after m ≡ is_own before m
same_own s bound before after out rows is m = own_run (step s) (is_own before) bound is.0 before after (map pair_of out) rows is.1.run m
