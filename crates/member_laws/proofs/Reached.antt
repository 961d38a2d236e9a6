-- Wherever a run has come.
use Rattle.membership.proofs.Few.{entries_below, few_entries}
use Rattle.member.proofs.Helpers.{helpers_below}
use Rattle.member.proofs.Samples.{candidates_below, sample_below}
use Rattle.membership.specs.Candidates.{does_fit}
use Rattle.member_laws.proofs.Walk.{AllNamed, NamesOnly}
use Rattle.std.proofs.Common.{◌≡◌, ℕ, zero, suc, ◌+◌, ◌<◌, ◌≤◌, Bool, true, false, cond, eqb, List, [], ◌∷◌, ◌++◌, map, flat_map, Option, Some, None, All, option_map, refl, sym, ap, subst, ◌∙◌, arith, ◌-◌, ◌^◌, length, filter, not, nat_eq, ◌&&◌}
use Rattle.std.proofs.lemmas.Option.{same_Some}
use Rattle.std.specs.Option.{is_some, IfSome}
use Rattle.std.specs.List.{AllByRecursion, range_with_len}
use Rattle.std.specs.Ordering.{nat_cmp}
use Rattle.std.specs.FinMap.{get, empty, from_entries, get-empty, entries}
use Rattle.std.proofs.lemmas.Bool.{false≢true, eqb-true}
use Rattle.std.proofs.lemmas.List.{length-map}
use Rattle.std.proofs.lemmas.List.Sums.{length-filter, count_by-le-length}
use Rattle.std.proofs.lemmas.List.Elements.{All-from_recursion, recursion_from_All}
use Rattle.base.specs.declared.key.Key.{Key}
use Rattle.base.specs.Order.{key_cmp}
use Rattle.base.specs.World.{Run}
use Rattle.base.proofs.Rising.{all_append}
use Rattle.base.proofs.Kept.{HoldsOfAll, all_with_events}
use Rattle.scenario.specs.Setup.{Setup, IsSound, IsSoundEvent, member_count, crash_of, leave_of, contact_of}
use Rattle.scenario.specs.Setup as setup
use Rattle.scenario.specs.Profile.{profile_of}
use Rattle.scenario.specs.Script.{asked_by}
use Rattle.scenario.specs.declared.script.ScriptKind.{ScriptKind}
use Rattle.scenario.specs.declared.script.ScriptKind.TheVariants as script
use Rattle.scenario.specs.declared.script.ScriptEvent.{ScriptEvent}
use Rattle.member_laws.proofs.Scripts.{events_so}
use Rattle.scenario.specs.declared.settings.Queue.{Queue}
use Rattle.base.specs.declared.profile.Profile.{Profile}
use Rattle.base.specs.declared.profile.Profile.TheVariants.{Papers, Memberlist, Hashicorp}
use Rattle.piggyback.specs.Picked.{waiting}
use Rattle.broadcast_queue.specs.Items.{those_that_fit}
use Rattle.broadcast_queue.specs.declared.items.Item.{Item}
use Rattle.broadcast_queue.specs.declared.items.Measure.{Measure}
use Rattle.broadcast_queue.specs.declared.items.Measure.TheVariants.{Items, Bytes}
use Rattle.lives.specs.Regards.{Regards, is_failed, failed_among}
use Rattle.member.specs.Riding.{claims_for, measure_of, room_of, intents_that_fit, intent_bytes, intents_for, intents_behind, both_for, riding_by}
use Rattle.member.specs.Wholes.{whole_by, whole_state, own_word}
use Rattle.std.specs.Prelude.{slice_index, nat_le, ◌≢◌}
use Rattle.trace.specs.declared.row.Row.{Row}
use Rattle.trace.specs.declared.row.What.{What}
use Rattle.trace.specs.Text.{NamesMembers}
use Rattle.incarnation.specs.declared.Claim.{Claim}
use Rattle.incarnation.specs.declared.Claim.TheVariants.{Suspect}
use Rattle.incarnation.specs.declared.Update.{Update}
use Rattle.suspicion.specs.Suspicions.{first_accuser_of}
use Rattle.member.specs.declared.event_kind.EventKind.{EventKind}
use Rattle.member.specs.declared.event_kind.EventKind.TheVariants.{Crash, Leave}
use Rattle.member.specs.Here.{MentionsMembers}
use Rattle.member.proofs.Members.{few_members}
use Rattle.member.specs.State.{State}
use Rattle.membership.specs.Table.{is_suspect, alive_but, is_alive}
use Rattle.member.specs.Effects.{Effect, with_row, with_event}
use Rattle.member.specs.Send.{limit_of, suspicion_told, buddy_of}
use Rattle.member.specs.Opening.{opening_state, opening, numbers, ending_event, content_of, numbered_from, script_by}
use Rattle.member.specs.Step.{step, candidates_for}
use Rattle.member_laws.specs.Words.{IsConsistent, IsAmongMembers}
use Rattle.member_laws.specs.Rows.{IsOn}
use Rattle.member_laws.specs.Runs.{Cluster, IsReached}
use Rattle.member_laws.proofs.Tables.{get_put}
use Rattle.member_laws.proofs.Made.{MayTell, Carries, Makes, AnyTime, any_time, by_step}
use Rattle.member_laws.proofs.Sampled.{sample_fits}
use Rattle.member_laws.proofs.Carried.{all_picked, all_waiting, all_said, all_whole, all_map, all_filter}
use Rattle.member_laws.proofs.Queued.{fit_about}
use Rattle.member_laws.proofs.Consistency.{Keeps, news, moves, contact_named, started_at_once, started_late, started_alone, keeps, opening_consistent, step_consistent, names_only, names_members}
use Rattle.member_laws.proofs.Switches.{each_row_is_on}
use Rattle.member_laws.proofs.Runs.{IsKept, run_kept, run_rows, opened}

-- ---- the events of a step

abbrev pub Below : Setup → ℕ → Type 0
Below s q = q < member_count s

range_low : (s : Setup) (a n : ℕ) → a + n ≤ member_count s → AllByRecursion (Below s) (range_with_len a n)
range_low s a zero h = tt
range_low s a (suc n) h = (omega arith, range_low s (a + 1) n (omega arith))

-- the suspicion that a ping to a suspect carries
abbrev told_by : ℕ → ℕ → ℕ → Update
told_by to inc first = record { subject = to; claim = Suspect; inc = inc; accuser = first }

told_subject : (s : Setup) (t : State) (to : ℕ) (held : Option (Claim × ℕ)) (u : Update) → get t.table to ≡ held → ((h : Claim × ℕ) → get t.table to ≡ Some h → to < member_count s)
    → suspicion_told t to held ≡ Some u → u.subject < member_count s
told_subject s t to None u here known is = absurd (false≢true (ap is_some is))
told_subject s t to (Some held) u here known is = suspect_either (is_suspect held.0) is
  where
    first_either : (first : Option ℕ) → option_map (λ (f : ℕ). told_by to held.1 f) first ≡ Some u → u.subject < member_count s
    first_either None is = absurd (false≢true (ap is_some is))
    first_either (Some f) is = subst (λ (v : Update). v.subject < member_count s) (same_Some (told_by to held.1 f) u is) (known held here)

    suspect_either : (b : Bool) → cond b (option_map (λ (f : ℕ). told_by to held.1 f) (first_accuser_of t.suspicions to)) None ≡ Some u → u.subject < member_count s
    suspect_either true is = first_either (first_accuser_of t.suspicions to) is
    suspect_either false is = absurd (false≢true (ap is_some is))

abbrev pub AnyRow : What → Type 0
AnyRow tells = Unit {0}

pub any_row : (s : Setup) (R : State → Type 0) (SomeLeave : Type 0) → MayTell s R SomeLeave AnyRow
any_row s R SomeLeave = record { plain = λ tells h. tt; nacks = λ t relay r here sends. tt; accuses = λ t u x r here. tt; healths = λ t h r r' differs. tt }

module _ (s : Setup) (sound : IsSound s) (k : Key) (here : k.to < member_count s) where
  buddy_subject : (t : State) (to : ℕ) (b : Bool) (u : Update) → Keeps s k.to t → cond b (suspicion_told t to (get t.table to)) None ≡ Some u → u.subject < member_count s
  buddy_subject t to true u r is = told_subject s t to (get t.table to) u refl (λ h at. (r.others.others to (ap is_some at)).0) is
  buddy_subject t to false u r is = absurd (false≢true (ap is_some is))

  ping_subjects : (t : State) (to : ℕ) → Keeps s k.to t → (u : Update) → buddy_of s to t ≡ Some u → u.subject < member_count s
  unfolding buddy_of
  ping_subjects t to r u is = buddy_subject t to s.lifeguard.buddy u r is

  contact_low : (c : ℕ) → contact_of s k.to ≡ Some c → c < member_count s
  contact_low c is = subst (λ o. IfSome o (Below s)) is (contact_named s sound k.to here)

  entries_low : (t : State) → Keeps s k.to t → AllByRecursion (λ (e : ℕ × (Claim × ℕ)). e.0 < member_count s) (entries t.table)
  entries_low t r = entries_below (member_count s) t.table (λ q at. (r.others.others q at).0)

  alive_low : (t : State) (target : ℕ) → Keeps s k.to t → AllByRecursion (Below s) (alive_but target t.table)
  unfolding alive_but
  alive_low t target r =
      all_map (Below s) (λ (e : ℕ × (Claim × ℕ)). e.0) _ (all_filter (λ (e : ℕ × (Claim × ℕ)). e.0 < member_count s) _ (entries t.table) (entries_low t r))

  few : (t : State) (target : ℕ) → Keeps s k.to t → length (alive_but target t.table) < 2 ^ 32 - 1
  unfolding alive_but
  few t target r =
      let short = few_entries (member_count s) t.table (λ q at. (r.others.others q at).0) in
      let live : ℕ × (Claim × ℕ) → Bool = λ e. is_alive e.1.0 && not (nat_eq e.0 target) in
      let most = few_members s sound in
      omega (
        arith,
        short,
        length-map (filter live (entries t.table)) (λ (e : ℕ × (Claim × ℕ)). e.0),
        length-filter live (entries t.table),
        count_by-le-length live (entries t.table),
        most,
      )

  -- what rides by memberlist 0.5.0's rules
  claims_named : (queue : Option Queue) (room : ℕ) (t : State) → Keeps s k.to t → AllNamed (Below s) (claims_for s queue room t)
  claims_named None room t r = all_picked (Below s) t.buffer room (limit_of s t) None r.buffer (λ u is. absurd (false≢true (ap is_some is)))
  claims_named (Some q) room t r =
      all_map (λ (u : Update). u.subject < member_count s) (λ (it : Item). it.update) (those_that_fit (measure_of (Some q)) room t.life.queue.items)
      (fit_about (Below s) (measure_of (Some q)) room t.life.queue.items r.life.queue)

  fit_either : (b : Bool) (u : Update) (xs ys : List Update) → Below s u.subject → AllNamed (Below s) xs → AllNamed (Below s) ys → AllNamed (Below s) (cond b (u ∷ xs) ys)
  fit_either true u xs ys own h g = (own, h)
  fit_either false u xs ys own h g = g

  intents_fit : (room : ℕ) (us : List Update) → AllNamed (Below s) us → AllNamed (Below s) (intents_that_fit s room us)
  intents_fit room [] h = tt
  intents_fit room (u ∷ us) h = fit_either (nat_le (intent_bytes s u) room) u _ _ h.0 (intents_fit (room - intent_bytes s u) us h.1) (intents_fit room us h.1)

  intents_named : (measure : Measure) (room : ℕ) (t : State) → Keeps s k.to t → AllNamed (Below s) (intents_for s measure room t)
  intents_named Items room t r = all_picked (Below s) t.life.intents room (limit_of s t) None r.life.intents (λ u is. absurd (false≢true (ap is_some is)))
  intents_named Bytes room t r = intents_fit room (waiting t.life.intents (limit_of s t)) (all_waiting (Below s) t.life.intents (limit_of s t) r.life.intents)

  riding_named : (profile : Profile) (bearer : _) (t : State) → Keeps s k.to t → AllNamed (Below s) (riding_by profile s k.to bearer t)
  unfolding both_for
  riding_named Papers bearer t r = all_picked (Below s) t.buffer s.swim.carry (limit_of s t) None r.buffer (λ u is. absurd (false≢true (ap is_some is)))
  riding_named Memberlist bearer t r = all_picked (Below s) t.buffer s.swim.carry (limit_of s t) None r.buffer (λ u is. absurd (false≢true (ap is_some is)))
  riding_named Hashicorp bearer t r =
      all_append (λ (u : Update). u.subject < member_count s) (claims_for s s.queue (room_of s k.to bearer s.queue) t) (intents_behind s k.to bearer t)
      (claims_named s.queue (room_of s k.to bearer s.queue) t r) (intents_named (measure_of s.queue) _ t r)

  known_named : (profile : Profile) (t : State) → Keeps s k.to t → AllNamed (Below s) (whole_by profile k.to t)
  unfolding whole_state
  known_named Papers t r = all_whole (Below s) k.to t.incarnation t.table here (λ q at. (r.others.others q at).0)
  known_named Memberlist t r = all_whole (Below s) k.to t.incarnation t.table here (λ q at. (r.others.others q at).0)
  known_named Hashicorp t r = all_said (Below s) k.to t.incarnation (own_word t.life.leaving) t.table here (λ q at. (r.others.others q at).0)

  one_below : (xs : List ℕ) (place : ℕ) → AllByRecursion (Below s) xs → Below s (slice_index xs place)
  one_below [] place h = omega (arith, here)
  one_below (x ∷ xs) zero h = h.0
  one_below (x ∷ xs) (suc place) h = one_below xs place h.1

  failed_below : (regards : Regards) → AllByRecursion (Below s) (failed_among (member_count s) regards)
  failed_below regards = all_filter (Below s) (λ m. is_failed (regards m)) (range_with_len 0 (member_count s)) (range_low s 0 (member_count s) (omega arith))

  pub carries : Carries s k (Below s) (Keeps s k.to)
  carries = record {
    plain = λ t bearer r. riding_named (profile_of s) bearer t r;
    known = λ t r. known_named (profile_of s) t r;
    failed = λ t m place failed r are. one_below (m ∷ failed) place (subst (AllByRecursion (Below s)) are (failed_below t.life.regards));
    ping = λ t to r. all_picked (Below s) t.buffer s.swim.carry (limit_of s t) (buddy_of s to t) r.buffer (ping_subjects t to r);
    contact = contact_low;
    helpers = λ t target count r.
        recursion_from_All (Below s) _ (helpers_below (member_count s) count t.words (alive_but target t.table) r.words (few t target r) (All-from_recursion (Below s) _ (alive_low t target r)));
    sample = λ t fitting count r.
        let all = candidates_below (member_count s) k.to (does_fit fitting t.since) t.table (λ q at. (r.others.others q at).0) in
        recursion_from_All (Below s) _ (sample_below (member_count s) (candidates_for k fitting t) _ all (sample_fits t.words count (candidates_for k fitting t)));
    whole = λ t r. all_whole (Below s) k.to t.incarnation t.table here (λ q at. (r.others.others q at).0);
  }

  abbrev AllOurs : Effect → Type 0
  AllOurs o = AllByRecursion (λ e. IsAmongMembers s e.0 e.1) o.events

  ours_row : (tells : What) (about : Option ℕ) (value : ℕ) (lost : Bool) (o : Effect) → AnyRow tells → IfSome about (Below s) → AllOurs o → AllOurs (with_row k tells about value lost o)
  unfolding with_row
  ours_row tells about value lost o told named h = h

  ours_event : (at to : ℕ) (content : EventKind) (o : Effect) → AnyTime at → Below s to → NamesOnly (Below s) (Unit {0}) content → AllOurs o → AllOurs (with_event s k at to content o)
  unfolding with_event
  ours_event at to content o timed there named h =
      all_append (λ e. IsAmongMembers s e.0 e.1) o.events _ h (record { receiver = there; sender = here; names = names_members (member_count s) content named }, tt)

  makes : Makes s k (Below s) (Unit {0}) AnyRow AnyTime AllOurs
  makes = record { row = ours_row; event = ours_event; lost = λ o h. h; state = λ t o same h. h }

  step_ours : (c : EventKind) (t : State) → IsAmongMembers s k c → IsConsistent s k.to t → AllByRecursion (λ e. IsAmongMembers s e.0 e.1) (step s k c t).events
  step_ours c t ours h =
      by_step s k (Below s) (Keeps s k.to) (news s sound k) (moves s sound k here) (Unit {0}) AnyRow (any_row s (Keeps s k.to) (Unit {0})) carries AnyTime (any_time s k (Keeps s k.to)) AllOurs makes c t ours.sender (names_only (member_count s) c ours.names)
      (keeps s sound k t h) (started_at_once s sound k t h) (started_late s sound k t h) (started_alone s sound k t h here) tt

  -- and its rows

  abbrev AllNaming : Effect → Type 0
  AllNaming o = AllByRecursion (NamesMembers s) o.rows

  module _ (maker : k.from < member_count s) where
    naming_row : (tells : What) (about : Option ℕ) (value : ℕ) (lost : Bool) (o : Effect) → AnyRow tells → IfSome about (Below s) → AllNaming o → AllNaming (with_row k tells about value lost o)
    unfolding with_row
    naming_row tells about value lost o told named h = all_append (NamesMembers s) o.rows _ h (record { member = here; from = maker; about = named }, tt)

    naming_event : (at to : ℕ) (content : EventKind) (o : Effect) → AllNaming o → AllNaming (with_event s k at to content o)
    unfolding with_event
    naming_event at to content o h = h

    names : Makes s k (Below s) (Unit {0}) AnyRow AnyTime AllNaming
    names = record { row = naming_row; event = λ at to content o timed there named h. naming_event at to content o h; lost = λ o h. h; state = λ t o same h. h }

    step_names : (c : EventKind) (t : State) → IsAmongMembers s k c → IsConsistent s k.to t → AllNaming (step s k c t)
    step_names c t ours h =
        by_step s k (Below s) (Keeps s k.to) (news s sound k) (moves s sound k here) (Unit {0}) AnyRow (any_row s (Keeps s k.to) (Unit {0})) carries AnyTime (any_time s k (Keeps s k.to)) AllNaming names c t maker (names_only (member_count s) c ours.names)
        (keeps s sound k t h) (started_at_once s sound k t h) (started_late s sound k t h) (started_alone s sound k t h here) tt

pub step_among : (s : Setup) (k : Key) (c : EventKind) (t : State) → IsSound s → IsAmongMembers s k c → IsConsistent s k.to t
    → All (λ (e : Key × EventKind). IsAmongMembers s e.0 e.1) (step s k c t).events
step_among s k c t sound among h = All-from_recursion (λ (e : Key × EventKind). IsAmongMembers s e.0 e.1) (step s k c t).events (step_ours s sound k among.receiver c t among h)

-- ---- the opening world

low_either : (s : Setup) (b : Bool) (x m : ℕ) (t u : State) (rest : Option State) → eqb m x ≡ b → x < member_count s → (rest ≡ Some t → m < member_count s) → cond b (Some u) rest ≡ Some t
    → m < member_count s
low_either s true x m t u rest e low later is = subst (Below s) (sym (eqb-true m x e)) low
low_either s false x m t u rest e low later is = later is

opened_low : (s : Setup) (xs : List ℕ) (m : ℕ) (t : State) → AllByRecursion (Below s) xs → get (from_entries {R = nat_cmp} (map (λ n. (n, opening_state s n)) xs)) m ≡ Some t → m < member_count s
opened_low s [] m t low here = absurd (false≢true (sym (ap is_some (get-empty nat_cmp m)) ∙ ap is_some here))
opened_low s (x ∷ xs) m t low here =
    low_either s (eqb m x) x m t (opening_state s x) (get (from_entries {R = nat_cmp} (map (λ n. (n, opening_state s n)) xs)) m) refl low.0 (opened_low s xs m t low.1)
    (sym (get_put (from_entries {R = nat_cmp} (map (λ n. (n, opening_state s n)) xs)) x m (opening_state s x)) ∙ here)

ending_ours : (s : Setup) (m : ℕ) (content : EventKind) (at : Option ℕ) → MentionsMembers (member_count s) content → m < member_count s → AllByRecursion (λ e. IsAmongMembers s e.0 e.1) (ending_event content m at)
ending_ours s m content None _ low = tt
ending_ours s m content (Some at) names low = (record { receiver = low; sender = low; names = names }, tt)

endings_ours : (s : Setup) (m : ℕ) → m < member_count s → AllByRecursion (λ e. IsAmongMembers s e.0 e.1) (ending_event Crash m (crash_of s m) ++ ending_event Leave m (leave_of s m))
endings_ours s m low =
    all_append (λ e. IsAmongMembers s e.0 e.1) (ending_event Crash m (crash_of s m)) (ending_event Leave m (leave_of s m))
    (ending_ours s m Crash (crash_of s m) tt low) (ending_ours s m Leave (leave_of s m) tt low)

content_ours : (s : Setup) (kind : ScriptKind) → IfSome (asked_by kind) (λ c. c < member_count s) → MentionsMembers (member_count s) (content_of kind)
content_ours s script.Crash h = tt
content_ours s script.Leave h = tt
content_ours s (script.Restart contact) h = h

asks_below : (s : Setup) (m : ℕ) (o : Option ℕ) → IfSome o (λ c. (c < member_count s) × (c ≢ m)) → IfSome o (λ c. c < member_count s)
asks_below s m None h = tt
asks_below s m (Some c) h = h.0

numbered_ours : (s : Setup) (m number : ℕ) (es : List ScriptEvent) → m < member_count s → AllByRecursion (λ (e : ScriptEvent). (e.member ≡ m) × IsSoundEvent s e) es
    → AllByRecursion (λ e. IsAmongMembers s e.0 e.1) (numbered_from m number es)
numbered_ours s m number [] low h = tt
numbered_ours s m number (e ∷ es) low h =
    (record { receiver = low; sender = low; names = content_ours s e.kind (asks_below s e.member (asked_by e.kind) h.0.1.contact) }, numbered_ours s m (number + 1) es low h.1)

script_ours_by : (s : Setup) → IsSound s → (profile : Profile) (x : ℕ) → Below s x → AllByRecursion (λ e. IsAmongMembers s e.0 e.1) (script_by profile s x)
script_ours_by s sound Papers x low = (record { receiver = low; sender = low; names = tt }, endings_ours s x low)
script_ours_by s sound Memberlist x low = (record { receiver = low; sender = low; names = tt }, endings_ours s x low)
script_ours_by s sound Hashicorp x low =
    (record { receiver = low; sender = low; names = tt }, numbered_ours s x 1 (setup.script_of s x) low (events_so (IsSoundEvent s) s sound.events x))

scripts_ours : (s : Setup) → IsSound s → (xs : List ℕ) → AllByRecursion (Below s) xs → AllByRecursion (λ e. IsAmongMembers s e.0 e.1) (flat_map (script_by (profile_of s) s) xs)
scripts_ours s sound [] low = tt
scripts_ours s sound (x ∷ xs) low =
    all_append (λ e. IsAmongMembers s e.0 e.1) (script_by (profile_of s) s x) (flat_map (script_by (profile_of s) s) xs) (script_ours_by s sound (profile_of s) x low.0) (scripts_ours s sound xs low.1)

pub none_pending : (E : Key → EventKind → Type 0) → HoldsOfAll E empty
none_pending E k c here = absurd (false≢true (ap is_some (sym (get-empty key_cmp k) ∙ here)))

-- ---- runs

abbrev pub IsMember : Setup → ℕ → State → Type 0
IsMember s m t = (m < member_count s) × IsConsistent s m t

module _ (s : Setup) (sound : IsSound s) where
  pub kept_step : (k : Key) (c : EventKind) (t : State) → k.at ≤ s.end → IsAmongMembers s k c → IsMember s k.to t
      → IsMember s k.to (step s k c t).state × AllByRecursion (λ e. IsAmongMembers s e.0 e.1) (step s k c t).events
  kept_step k c t in_time ours h =
      ((h.0, step_consistent s k c t sound ours h.1), step_ours s sound k h.0 c t ours h.1)

  pub kept_opening : IsKept (step s) (IsMember s) (IsAmongMembers s) s.end kept_step (opening s)
  kept_opening = record {
    members = λ m t here. (
      opened_low s (numbers s) m t (range_low s 0 (member_count s) (omega arith)) here,
      subst (IsConsistent s m) (sym (opened s (numbers s) m t here)) (opening_consistent s m),
    );
    events = all_with_events (IsAmongMembers s) (flat_map (script_by (profile_of s) s) (numbers s)) empty (none_pending (IsAmongMembers s)) (scripts_ours s sound (numbers s) (range_low s 0 (member_count s) (omega arith)));
  }

  kept_reached : (w : Cluster) → IsReached s w → IsKept (step s) (IsMember s) (IsAmongMembers s) s.end kept_step w
  kept_reached w reached = run_kept (step s) (IsMember s) (IsAmongMembers s) s.end kept_step reached.0 (opening s) w reached.1 reached.2 kept_opening

  pub consistent_reached : (w : Cluster) (m : ℕ) (t : State) → IsReached s w → get w.members m ≡ Some t → IsConsistent s m t
  consistent_reached w m t reached here = ((kept_reached w reached).members m t here).1

  pub pending_among : (w : Cluster) (k : Key) (c : EventKind) → IsReached s w → get w.pending k ≡ Some c → IsAmongMembers s k c
  pending_among w k c reached here = (kept_reached w reached).events k c here

  pub rows_on : (keys : List Key) (rows : List Row) (w : Cluster) → Run (step s) s.end (opening s) keys rows w → All (λ (row : Row). IsOn s row.what) rows
  rows_on keys rows w run =
      All-from_recursion (λ (row : Row). IsOn s row.what) rows
      (run_rows (step s) (IsMember s) (IsAmongMembers s) s.end kept_step (λ (row : Row). IsOn s row.what) (λ k c t ours h. each_row_is_on s k c t h.1) keys (opening s) w rows run kept_opening)

  pub rows_named : (keys : List Key) (rows : List Row) (w : Cluster) → Run (step s) s.end (opening s) keys rows w → All (NamesMembers s) rows
  rows_named keys rows w run =
      All-from_recursion (NamesMembers s) rows
      (run_rows (step s) (IsMember s) (IsAmongMembers s) s.end kept_step (NamesMembers s) (λ k c t ours h. step_names s sound k ours.receiver ours.sender c t ours h.1) keys (opening s) w rows run kept_opening)
