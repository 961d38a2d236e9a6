-- Every step is made of the changes.
use Rattle.std.specs.Option.{is_some, option_map_or}
use Rattle.std.proofs.Common.{◌≡◌, ℕ, zero, suc, ◌+◌, ◌-◌, ◌==◌, length, map, Bool, true, false, cond, not, nat_eq, nat_lt, ◌&&◌, ◌||◌, List, [], ◌∷◌, Option, Some, None, option_map, refl, ap, sym, subst, ◌∙◌, arith}
use Rattle.std.proofs.lemmas.Option.{same_Some}
use Rattle.std.specs.List.{AllByRecursion}
use Rattle.std.specs.FinMap.{get, insert}
use Rattle.std.specs.FinSet as set
use Rattle.std.proofs.lemmas.Bool.{eqb-false, false≢true, and_parts}
use Rattle.base.specs.declared.key.Key.{Key}
use Rattle.scenario.specs.Setup.{Setup, member_count, start_of, contact_of}
use Rattle.trace.specs.declared.row.What.{What}
use Rattle.trace.specs.declared.row.What.TheVariants as what
use Rattle.streams.specs.Draw.{Words, IsRestOf, below_of}
use Rattle.streams.proofs.PlaceLemmas.{below_rest, shuffle_rest}
use Rattle.incarnation.specs.declared.Claim.{Claim}
use Rattle.incarnation.specs.declared.Claim.TheVariants.{Alive, Suspect, Confirm, Left, Intent}
use Rattle.incarnation.specs.declared.Update.{Update}
use Rattle.lifeguard.specs.declared.probe.Probe.{Probe}
use Rattle.lifeguard.specs.Health.{LocalHealth, lowered, raised, scaled}
use Rattle.lifeguard.specs.Probe.{failures_of, misses_of, after_probe, after_deadline, fresh_probe, timed_probe, with_nack, with_reach}
use Rattle.probing.specs.ProbeOrder.{helpers_of, next_of}
use Rattle.suspicion.specs.Suspicions.{accused_of, answer_of as answer_to, is_due}
use Rattle.suspicion.specs.declared.suspicions.Accused.{Accused}
use Rattle.member.specs.declared.member.Phase.{Phase}
use Rattle.member.specs.declared.member.Phase.TheVariants.{Waiting, Joining, Running, Down}
use Rattle.member.specs.declared.event_kind.EventKind.{EventKind}
use Rattle.member.specs.declared.event_kind.EventKind.TheVariants.{Start, Crash, Leave, Restart, JoinTimer, PeriodTimer, TimeoutTimer, NackTimer, SuspicionTimer, Join, Welcome, Ping, PingReq, Ack, Nack, Bye, DeadlineTimer, GossipTimer, PushTimer, Call, Answer, Gossip, Push, Pull, SettingTimer, ConnectedTimer, ReconnectTimer, ExitTimer}
use Rattle.member.specs.declared.announce.Announce.{Announce}
use Rattle.member.specs.declared.announce.Announce.TheVariants.{Aloud, Quietly}
use Rattle.member.specs.Announce.{is_aloud}
use Rattle.member.specs.State.{State}
use Rattle.base.specs.Beats.{next_in_step}
use Rattle.base.specs.declared.profile.Profile.{Profile}
use Rattle.base.specs.declared.profile.Profile.TheVariants.{Papers, Memberlist, Hashicorp}
use Rattle.scenario.specs.Profile.{profile_of}
use Rattle.scenario.specs.declared.settings.Gossip as settings
use Rattle.incarnation.specs.Refutations.{does_refute}
use Rattle.membership.specs.Table.{is_alive, is_confirm, is_left, is_intent, does_override, alive_but}
use Rattle.member.specs.Effects.{Effect, unchanged, on_state, with_row, with_number, with_event, with_timer}
use Rattle.member.specs.Send.{sent_off, posted, sent, sent_to_each, without_riding, gossip_sent, call_sent, answer_sent, push_sent, pull_sent, with_picks, buddy_of, ping_sent, ping_req_sent, ack_sent, pings_ack_sent, nack_sent, join_sent_to, join_sent, welcome_sent, bye_sent}
use Rattle.member.specs.Apply.{gossip_set, with_put, with_health, with_told, passed_on, refuted, heard_dead, is_own_death, is_refuted, own_applied, claim_kept_by, without_suspicion, alive_heard, suspicion_begun, suspect_heard, death_kept, confirm_heard, left_heard, claim_heard, news_heard, accusation_counted, accusation_heard, is_repeated, is_heeded, other_applied, claim_applied, intent_applied, applied, all_applied}
use Rattle.member.specs.Forgetting.{without_entry, kept_for, is_long_dead, forgotten_if, all_forgotten, round_ended}
use Rattle.member.specs.FirstRounds.{first_round}
use Rattle.member.specs.Step.{push_begun, even_push_begun, push_begun_by, push_period, first_push_set, suspected_at, timed_probe_failed, probe_settled, needs_timer, probe_timers_set, timed_probe_begun, timed_target_probed, next_timed_probed, waiting_probed, has_time, probed_in_turn, period_beaten, is_under_way, deadline_over, timed_answered, timed_ack_heard, sampled_help, helped, called, timed_out_timed, reached, answer_heard, is_told_out, gossip_spread, gossip_set_again, gossip_round, gossip_due, merged_claim, merged, pushed, push_due, push_heard, timed_handled, handled_by, first_period_set, began, join_asked, joining_begun, started, crashed, join_handled, joined, suspected, probe_failed, probe_ended, probe_begun, target_probed, next_probed, period_begun, with_expected, help_asked, timed_out, nack_heard, nacked, answered, ping_heard, with_relay, ping_req_heard, ack_taken, ack_heard, nack_due, confirmed, suspicion_over, withdrawn, byes_said, departed, plain_handled, handled, step}
use Rattle.member_laws.proofs.Rests.{way_rest, arrival_rest, call_rest, answer_rest, kept_rest, dial_rest, sample_rest}
use Rattle.std.proofs.Math.Bool.{or-true}
use Rattle.suspicion.specs.Suspicions.{is_over_of}
use Rattle.membership.specs.Table.{is_suspect, size_by, live_count}
use Rattle.member.specs.LateAccusations.{death_of, accused_confirmed, accusation_answered, prompt_accusation_heard, accusation_by}
use Rattle.member.specs.LoneBuddy.{lone_buddy_of, plain_ping_sent, ping_with_lone, probe_ping_sent}
use Rattle.member.specs.SingleBeat.{is_in_step, both_timers_set, single_probe_begun, blocked_probe_begun, departing_probe_begun, single_target_probed, turn_probed, next_single_probed, next_if_waiting, single_beat_taken, single_beaten, single_deadline_over, single_answered}
use Rattle.member.specs.LateAcks.{ping_answered, help_given, help_asked_for, single_ack_taken, single_ack_heard, help_over}
use Rattle.member.specs.Step.{single_handled, process_handled, phase_handled, process_lived}
use Rattle.std.specs.Prelude.{max, min, slice_index}
use Rattle.links.specs.Arrival.{arrival_of}
use Rattle.links.specs.Trips.{call_of, answer_of, kept_arrival_of}
use Rattle.std.specs.Option.{IfSome}
use Rattle.std.specs.FinMap.{contains_key}
use Rattle.scenario.specs.declared.settings.Serf.{Serf}
use Rattle.lives.specs.Lives.{does_stay, does_intend, does_say}
use Rattle.lives.specs.Regards.{Regards, regarded, reaped}
use Rattle.lives.specs.declared.leaving.Leaving.TheVariants.{Intends, Says, Lingers}
use Rattle.lives.specs.declared.regards.Regard.TheVariants.{Marked}
use Rattle.member.specs.Blocks.{departs_at}
use Rattle.member.specs.Riding.{without_riding_by, is_claim_held, is_all_told}
use Rattle.member.specs.Intents.{with_intent, with_regard, is_known_intent, regards_kept}
use Rattle.member.specs.Connections.{with_words, dial_drawn, dialed, push_dialed}
use Rattle.member.specs.Beginnings.{contact_dialed, contact_asked, is_asked, contact_reached, setting_set, reconnect_set, own_beats_set, alone_begun, pushes_set, founders_reconnect_set, founder_begun, latecomer_begun, process_started, reborn, restarted}
use Rattle.member.specs.DialedPushes.{push_opened, push_opened_to, dialed_push, dialed_push_due}
use Rattle.member.specs.Merges.{leave_noted, is_left_and_not_up, entry_claim, entry_merged, table_merged, push_merged}
use Rattle.member.specs.Leaves.{is_anybody_up, with_leaving, own_intent, own_left, lingered, left_said, leave_told, leave_begun, intent_sent, left_sent, is_running, leave_gone_on, exited}
use Rattle.member.specs.Reconnects.{failures_reaped, next_try_set, failed_dialed, one_dialed, any_tried, reconnect_due}
use Rattle.member.specs.WholeGossip.{next_round_set, round_set_again, whole_round, whole_gossip_due}
use Rattle.member.specs.Processes.{is_of_former_life, start_handled, restart_handled}
use Rattle.member_laws.specs.Words.{has_relays, keeps_relays}
use Rattle.member_laws.proofs.LateDeaths.{repeated_suspect, death_after}
use Rattle.member_laws.proofs.Moves.{IsNews, NewsMoves, Moves, at_once, at_late, at_alone, regards_either, refuted_does, Anyone}

-- by memberlist 0.5.0's rules helpers keep in mind whom they help
pub always_relays : (s : Setup) → profile_of s ≡ Hashicorp → has_relays s ≡ true
always_relays s rules = ap (λ profile. s.lifeguard.probe || keeps_relays profile) rules ∙ or-true s.lifeguard.probe

-- whom the updates of an event are about
abbrev pub AllNamed : (ℕ → Type 0) → List Update → Type 0
AllNamed Named us = AllByRecursion (λ u. Named u.subject) us

-- whom an event names; and it is a leave or a bye only where some members leave
abbrev pub NamesOnly : (ℕ → Type 0) → Type 0 → EventKind → Type 0
NamesOnly Named SomeLeave (NackTimer initiator seq) = Named initiator
NamesOnly Named SomeLeave (Welcome entries) = AllNamed Named entries
NamesOnly Named SomeLeave (Ping initiator seq updates) = Named initiator × AllNamed Named updates
NamesOnly Named SomeLeave (PingReq target seq updates) = Named target × AllNamed Named updates
NamesOnly Named SomeLeave (Ack initiator seq updates) = Named initiator × AllNamed Named updates
NamesOnly Named SomeLeave (Gossip updates) = AllNamed Named updates
NamesOnly Named SomeLeave (Push entries) = AllNamed Named entries
NamesOnly Named SomeLeave (Pull entries) = AllNamed Named entries
NamesOnly Named SomeLeave (Restart contact) = IfSome contact Named
NamesOnly Named SomeLeave (ConnectedTimer to) = Named to
NamesOnly Named SomeLeave Leave = SomeLeave
NamesOnly Named SomeLeave Bye = SomeLeave
NamesOnly Named SomeLeave _ = Unit {0}

same_target : (P : ℕ → Type 0) (a b : Probe) → a.target ≡ b.target → P a.target → P b.target
same_target P a b same h = subst P same h

target_either : (b : Bool) (x y : Probe) → x.target ≡ y.target → (cond b x y).target ≡ y.target
target_either true x y same = same
target_either false x y same = refl

nacked_target : (P : ℕ → Type 0) (seq : ℕ) (o : Option Probe) → ((p : Probe) → o ≡ Some p → P p.target) → (p : Probe) → nacked seq o ≡ Some p → P p.target
nacked_target P seq None h p is = absurd (false≢true (ap is_some is))
nacked_target P seq (Some x) h p is =
    subst (λ (q : Probe). P q.target) (same_Some _ p is) (subst P (sym (target_either (nat_eq x.seq seq) (with_nack x) x refl)) (h x refl))

answered_target : (P : ℕ → Type 0) (seq : ℕ) (o : Option Probe) → ((p : Probe) → o ≡ Some p → P p.target) → (p : Probe) → answered seq o ≡ Some p → P p.target
answered_target P seq None h p is = absurd (false≢true (ap is_some is))
answered_target P seq (Some x) h p is =
    subst (λ (q : Probe). P q.target) (same_Some _ p is) (subst P (sym (target_either (nat_eq x.seq seq) (record x { acked = true }) x refl)) (h x refl))

reached_target : (P : ℕ → Type 0) (seq : ℕ) (o : Option Probe) → ((p : Probe) → o ≡ Some p → P p.target) → (p : Probe) → reached seq o ≡ Some p → P p.target
reached_target P seq None h p is = absurd (false≢true (ap is_some is))
reached_target P seq (Some x) h p is =
    subst (λ (q : Probe). P q.target) (same_Some _ p is) (subst P (sym (target_either (nat_eq x.seq seq) (with_reach x) x refl)) (h x refl))

pub one_target : (P : ℕ → Type 0) (x : Probe) → P x.target → (p : Probe) → Some x ≡ Some p → P p.target
one_target P x h p is = subst (λ (q : Probe). P q.target) (same_Some x p is) h

pub no_target : (P : ℕ → Type 0) (p : Probe) → None ≡ Some p → P p.target
no_target P p is = absurd (false≢true (ap is_some is))

pub all_anyone : (us : List Update) → AllNamed Anyone us
all_anyone [] = tt
all_anyone (u ∷ us) = (tt, all_anyone us)

some_anyone : (o : Option ℕ) → IfSome o Anyone
some_anyone None = tt
some_anyone (Some m) = tt

pub anyone_named : (c : EventKind) → NamesOnly Anyone (Unit {0}) c
anyone_named Start = tt
anyone_named Crash = tt
anyone_named JoinTimer = tt
anyone_named PeriodTimer = tt
anyone_named (TimeoutTimer seq) = tt
anyone_named (NackTimer initiator seq) = tt
anyone_named (SuspicionTimer subject) = tt
anyone_named Join = tt
anyone_named (Welcome entries) = all_anyone entries
anyone_named (Ping initiator seq updates) = (tt, all_anyone updates)
anyone_named (PingReq target seq updates) = (tt, all_anyone updates)
anyone_named (Ack initiator seq updates) = (tt, all_anyone updates)
anyone_named (Nack seq) = tt
anyone_named Leave = tt
anyone_named Bye = tt
anyone_named (DeadlineTimer seq) = tt
anyone_named GossipTimer = tt
anyone_named PushTimer = tt
anyone_named (Call seq) = tt
anyone_named (Answer seq) = tt
anyone_named (Gossip updates) = all_anyone updates
anyone_named (Push entries) = all_anyone entries
anyone_named (Pull entries) = all_anyone entries
anyone_named (Restart contact) = some_anyone contact
anyone_named SettingTimer = tt
anyone_named (ConnectedTimer to) = tt
anyone_named ReconnectTimer = tt
anyone_named ExitTimer = tt

module _ (s : Setup) (k : Key) (Named : ℕ → Type 0) (R : State → Type 0) (news : NewsMoves s k Named R) where
  pub on_either : (b : Bool) (o p : Effect) → R o.state → R p.state → R (cond b o p).state
  on_either true o p a b = a
  on_either false o p a b = b

  pub on_row : (tells : What) (about : Option ℕ) (value : ℕ) (lost : Bool) (o : Effect) → R o.state → R (with_row k tells about value lost o).state
  unfolding with_row
  on_row tells about value lost o h = h

  pub on_event : (at to : ℕ) (content : EventKind) (o : Effect) → R o.state → R (with_event s k at to content o).state
  unfolding with_event
  on_event at to content o h = news.counted o.state h

  pub on_told : (telling : Announce) (tells : What) (subject value : ℕ) (o : Effect) → R o.state → R (with_told telling k tells subject value o).state
  on_told telling tells subject value o h = on_either (is_aloud telling) (with_row k tells (Some subject) value false o) o (on_row tells (Some subject) value false o h) h

  pub on_gossip_set : (gossip : Option settings.Gossip) (o : Effect) → R o.state → R (gossip_set s k gossip o).state
  on_gossip_set None o h = h
  on_gossip_set (Some gossip) o h =
      on_either o.state.gossips o (with_event s k (next_in_step (o.state.beat - 1) gossip.interval k.at) k.to GossipTimer (on_state (λ t. record t { gossips = true }) o))
      h (on_event _ k.to GossipTimer (on_state (λ t. record t { gossips = true }) o) (news.gossiping o.state true h))

  pub on_put : (u : Update) (o : Effect) → Named u.subject → R o.state → R (with_put s k u o).state
  unfolding with_put
  on_put u o named h = on_gossip_set s.gossip _ (news.put o.state u named h)

  pub on_passed : (telling : Announce) (u : Update) (o : Effect) → Named u.subject → R o.state → R (passed_on s k telling u o).state
  unfolding passed_on
  on_passed telling u o named h = on_either (is_aloud telling) (with_put s k u o) o (on_put u o named h) h

  -- how Serf regards the others makes no difference to what a death leaves
  death_regarded : (profile : Profile) (subject now : ℕ) (regards : Regards) (t : State) → R (death_kept profile subject now t) → R (death_kept profile subject now (record t { life = record t.life { regards = regards } }))
  death_regarded Papers subject now regards t h = news.regarding t regards h
  death_regarded Memberlist subject now regards t h = news.regarding (death_kept Memberlist subject now t) regards h
  death_regarded Hashicorp subject now regards t h = news.regarding (death_kept Hashicorp subject now t) regards h

  -- what a claim leaves that is kept
  abbrev pub claimed : Update → State → State
  claimed u t = regards_kept s.serf k.at u (claim_kept_by (profile_of s) u t)

  pub claimed_alive : (u : Update) (t : State) → Named u.subject → IsNews (profile_of s) k.to t u → u.claim ≡ Alive → R t → R (without_suspicion u.subject (claimed u t))
  claimed_alive u t named says e h =
      let kept = claim_kept_by (profile_of s) u t in
      let there = news.alive t u named says e h in
      regards_either (λ w. R (without_suspicion u.subject w)) s.serf k.at u kept there (λ regard. news.regarding (without_suspicion u.subject kept) (regarded u.subject regard kept.life.regards) there)

  pub claimed_suspect : (u : Update) (t : State) → Named u.subject → IsNews (profile_of s) k.to t u → u.claim ≡ Suspect → R t
      → R (record (claimed u t) { suspicions = insert (claimed u t).suspicions u.subject (suspicion_begun s k u (claimed u t)) })
  claimed_suspect u t named says e h =
      let kept = claim_kept_by (profile_of s) u t in
      let there = news.suspect t u (suspicion_begun s k u kept) named says e (record { terms = refl; since = refl; members = refl }) h in
      regards_either (λ w. R (record w { suspicions = insert w.suspicions u.subject (suspicion_begun s k u w) })) s.serf k.at u kept there
      (λ regard. news.regarding (record kept { suspicions = insert kept.suspicions u.subject (suspicion_begun s k u kept) }) (regarded u.subject regard kept.life.regards) there)

  pub claimed_gone : (u : Update) (t : State) → Named u.subject → IsNews (profile_of s) k.to t u → is_confirm u.claim ≡ true → R t
      → R (death_kept (profile_of s) u.subject k.at (without_suspicion u.subject (claimed u t)))
  claimed_gone u t named says e h =
      let kept = claim_kept_by (profile_of s) u t in
      let there = news.confirm t u named says e h in
      regards_either (λ w. R (death_kept (profile_of s) u.subject k.at (without_suspicion u.subject w))) s.serf k.at u kept there
      (λ regard. death_regarded (profile_of s) u.subject k.at (regarded u.subject regard kept.life.regards) (without_suspicion u.subject kept) there)

  no_intent : (u : Update) → is_intent u.claim ≡ false → u.claim ≡ Intent → ⊥
  no_intent u spoken e = false≢true (sym spoken ∙ ap is_intent e)

  pub on_claim : (telling : Announce) (u : Update) (claim : Claim) (o : Effect) → Named u.subject → IsNews (profile_of s) k.to o.state u → u.claim ≡ claim → R o.state
      → R (claim_heard s telling k u claim (on_state (claimed u) o)).state
  unfolding alive_heard suspect_heard confirm_heard left_heard
  on_claim telling u Alive o named says e h = on_told telling _ u.subject u.inc _ (claimed_alive u o.state named says e h)
  on_claim telling u Suspect o named says e h = on_event _ k.to _ _ (on_told telling _ u.subject u.inc _ (claimed_suspect u o.state named says e h))
  on_claim telling u Confirm o named says e h = on_told telling _ u.subject u.inc _ (claimed_gone u o.state named says (ap is_confirm e) h)
  on_claim telling u Left o named says e h = on_told telling _ u.subject u.inc _ (claimed_gone u o.state named says (ap is_confirm e) h)
  on_claim telling u Intent o named says e h = absurd (no_intent u says.spoken e)

  pub on_news : (telling : Announce) (u : Update) (o : Effect) → Named u.subject → IsNews (profile_of s) k.to o.state u → R o.state → R (news_heard s telling k u o).state
  unfolding news_heard
  on_news telling u o named says h = on_passed telling u (claim_heard s telling k u u.claim (on_state (claimed u) o)) named (on_claim telling u u.claim o named says refl h)

  pub on_accusation_counted : (telling : Announce) (u : Update) (accused : Option Accused) (o : Effect) → Named u.subject → R o.state → R (accusation_counted s telling k u accused o).state
  on_accusation_counted telling u None o named h = h
  on_accusation_counted telling u (Some accused) o named h =
      on_passed telling u (with_event s k accused.due k.to (SuspicionTimer u.subject) (with_told telling k _ u.subject accused.count o)) named (on_event _ k.to _ _ (on_told telling _ u.subject accused.count o h))

  pub on_accusation : (telling : Announce) (u : Update) (o : Effect) → Named u.subject → R o.state → R (accusation_heard s telling k u o).state
  unfolding accusation_heard
  on_accusation telling u o named h =
      on_accusation_counted telling u (option_map (answer_to k.at) (accused_of o.state.suspicions u.subject u.accuser o.state.next_number)) _ named (news.accused o.state u h)

  -- where the suspicion's time is up by now
  on_accused_confirmed : (telling : Announce) (u : Update) (held : Claim × ℕ) (accused : Accused) (o : Effect) → Named u.subject → ¬ (u.subject ≡ k.to) → get o.state.table u.subject ≡ Some held
      → is_suspect held.0 ≡ true → R o.state → R (accused_confirmed s telling k u held.1 accused o).state
  on_accused_confirmed telling u held accused o named other here suspected h =
      let told = with_told telling k what.Accuse u.subject accused.count o in
      on_news telling (death_of k.to u.subject held.1) (passed_on s k telling u told) named
      (record { other = other; spoken = refl; news = death_after s (profile_of s) k telling what.Accuse u held accused.count o here suspected })
      (on_passed telling u told named (on_told telling what.Accuse u.subject accused.count o h))

  on_accusation_answered : (telling : Announce) (u : Update) (held : Claim × ℕ) (accused : Option Accused) (o : Effect) → Named u.subject → ¬ (u.subject ≡ k.to) → get o.state.table u.subject ≡ Some held
      → is_suspect held.0 ≡ true → R o.state → R (accusation_answered s telling k u held.1 accused o).state
  on_accusation_answered telling u held None o named other here suspected h = h
  on_accusation_answered telling u held (Some accused) o named other here suspected h =
      on_either (is_over_of o.state.suspicions u.subject k.at) (accused_confirmed s telling k u held.1 accused o) (accusation_counted s telling k u (Some accused) o)
      (on_accused_confirmed telling u held accused o named other here suspected h) (on_accusation_counted telling u (Some accused) o named h)

  on_prompt : (telling : Announce) (u : Update) (held : Claim × ℕ) (o : Effect) → Named u.subject → ¬ (u.subject ≡ k.to) → get o.state.table u.subject ≡ Some held
      → is_suspect held.0 ≡ true → R o.state → R (prompt_accusation_heard s telling k u held.1 o).state
  unfolding prompt_accusation_heard
  on_prompt telling u held o named other here suspected h =
      on_accusation_answered telling u held (option_map (answer_to k.at) (accused_of o.state.suspicions u.subject u.accuser o.state.next_number)) _ named other here suspected (news.accused o.state u h)

  on_accusation_by : (profile : Profile) (telling : Announce) (u : Update) (held : Claim × ℕ) (o : Effect) → Named u.subject → ¬ (u.subject ≡ k.to) → get o.state.table u.subject ≡ Some held
      → is_suspect held.0 ≡ true → R o.state → R (accusation_by profile s telling k u held.1 o).state
  on_accusation_by Papers telling u held o named other here suspected h = on_accusation telling u o named h
  on_accusation_by Memberlist telling u held o named other here suspected h = on_accusation telling u o named h
  on_accusation_by Hashicorp telling u held o named other here suspected h = on_prompt telling u held o named other here suspected h

  on_repeated : (telling : Announce) (u : Update) (held : Claim × ℕ) (b : Bool) (o : Effect) → Named u.subject → ¬ (u.subject ≡ k.to) → get o.state.table u.subject ≡ Some held
      → is_repeated (profile_of s) u held ≡ b → R o.state → R (cond b (accusation_by (profile_of s) s telling k u held.1 o) o).state
  on_repeated telling u held true o named other here e h = on_accusation_by (profile_of s) telling u held o named other here (repeated_suspect (profile_of s) u held e) h
  on_repeated telling u held false o named other here e h = h

  pub on_known : (telling : Announce) (u : Update) (held : Claim × ℕ) (b : Bool) (o : Effect) → Named u.subject → ¬ (u.subject ≡ k.to) → is_intent u.claim ≡ false → get o.state.table u.subject ≡ Some held
      → does_override (profile_of s) (u.claim, u.inc) held ≡ b → R o.state
      → R (cond b (news_heard s telling k u o) (cond (is_repeated (profile_of s) u held) (accusation_by (profile_of s) s telling k u held.1 o) o)).state
  on_known telling u held true o named other spoken here e h = on_news telling u o named (record { other = other; spoken = spoken; news = rw here e }) h
  on_known telling u held false o named other spoken here e h = on_repeated telling u held (is_repeated (profile_of s) u held) o named other here refl h

  pub on_other : (telling : Announce) (u : Update) (held : Option (Claim × ℕ)) (o : Effect) → Named u.subject → ¬ (u.subject ≡ k.to) → is_intent u.claim ≡ false → get o.state.table u.subject ≡ held → R o.state
      → R (other_applied s telling k u held o).state
  on_other telling u None o named other spoken none h =
      on_either (is_heeded (profile_of s) telling u.claim) (news_heard s telling k u o) o (on_news telling u o named (record { other = other; spoken = spoken; news = rw none refl }) h) h
  on_other telling u (Some held) o named other spoken here h = on_known telling u held (does_override (profile_of s) (u.claim, u.inc) held) o named other spoken here refl h

  pub on_intent : (u : Update) (serf : Option Serf) (o : Effect) → Named u.subject → R o.state → R (intent_applied s k u serf o).state
  on_intent u None o named h = h
  on_intent u (Some serf) o named h =
      let marked = with_regard u.subject Marked o.state in
      on_either (is_known_intent k.to u.subject o.state) o _ h
      (on_gossip_set s.gossip (on_state (λ t. with_intent u (with_regard u.subject Marked t)) o) (news.intended marked u named (news.regarding o.state (regarded u.subject Marked o.state.life.regards) h)))

  module _ (moves : Moves s k Named R) where
    pub on_timer : (ticks : ℕ) (content : EventKind) (o : Effect) → R o.state → R (with_timer s k ticks content o).state
    unfolding with_timer
    on_timer ticks content o h = on_event (k.at + ticks) k.to content o h

    -- ---- messages

    pub on_number : (o : Effect) → R o.state → R (with_number o.state)
    unfolding with_number
    on_number o h = news.counted o.state h

    pub on_sent_off : (to : ℕ) (content : EventKind) (arrival : Option ℕ) (o : Effect) → R o.state → R (sent_off s k to content arrival o).state
    on_sent_off to content None o h = on_number o h
    on_sent_off to content (Some at) o h = on_event at to content o h

    pub on_posted : (tells : What) (to value : ℕ) (content : EventKind) (arrival : Option ℕ × Words) (o : Effect) → IsRestOf o.state.words arrival.1 → R o.state
        → R (posted s k tells to value content arrival o).state
    unfolding posted
    on_posted tells to value content arrival o rest h = on_sent_off to content arrival.0 _ (on_row tells (Some to) value _ _ (moves.drawn o.state arrival.1 rest h))

    pub on_sent : (tells : What) (to value : ℕ) (content : EventKind) (o : Effect) → R o.state → R (sent s k tells to value content o).state
    on_sent tells to value content o h = on_posted tells to value content _ o (way_rest s k to (arrival_of s k.to to) o.state.words (arrival_rest s k.to to)) h

    pub on_ping : (to initiator seq : ℕ) (o : Effect) → R o.state → R (ping_sent s k to initiator seq o).state
    unfolding ping_sent
    on_ping to initiator seq o h = on_sent _ to seq _ (on_state (with_picks s (buddy_of s to o.state)) o) (moves.picked o.state (buddy_of s to o.state) h)

    -- what is left where updates ride on a message
    pub riding_kept : (profile : Profile) (bearer : _) (t : State) → R t → R (without_riding_by profile s k.to bearer t)
    riding_kept Papers bearer t h = moves.picked t None h
    riding_kept Memberlist bearer t h = moves.picked t None h
    riding_kept Hashicorp bearer t h = moves.ridden t bearer h

    pub on_riding : (bearer : _) (o : Effect) → R o.state → R (without_riding s k bearer o).state
    on_riding bearer o h = riding_kept (profile_of s) bearer o.state h

    pub on_ping_req : (target seq to : ℕ) (o : Effect) → R o.state → R (ping_req_sent s k target seq to o).state
    unfolding ping_req_sent
    on_ping_req target seq to o h = on_sent _ to seq _ _ (on_riding _ o h)

    pub on_ack : (to initiator seq : ℕ) (o : Effect) → R o.state → R (ack_sent s k to initiator seq o).state
    unfolding ack_sent
    on_ack to initiator seq o h = on_sent _ to seq _ _ (on_riding _ o h)

    pub on_pings_ack : (to initiator seq : ℕ) (o : Effect) → R o.state → R (pings_ack_sent s k to initiator seq o).state
    unfolding pings_ack_sent
    on_pings_ack to initiator seq o h = on_sent _ to seq _ _ (on_riding _ o h)

    pub on_nack : (to seq : ℕ) (o : Effect) → R o.state → R (nack_sent s k to seq o).state
    unfolding nack_sent
    on_nack to seq o h = on_sent _ to seq _ o h

    pub on_join_to : (contact : Option ℕ) (o : Effect) → R o.state → R (join_sent_to s k contact o).state
    on_join_to None o h = h
    on_join_to (Some contact) o h = on_sent _ contact 0 Join o h

    pub on_join : (o : Effect) → R o.state → R (join_sent s k o).state
    unfolding join_sent
    on_join o h = on_join_to (contact_of s k.to) o h

    pub on_welcome : (to : ℕ) (o : Effect) → R o.state → R (welcome_sent s k to o).state
    unfolding welcome_sent
    on_welcome to o h = on_sent _ to 0 _ o h

    pub on_bye : (to : ℕ) (o : Effect) → R o.state → R (bye_sent s k to o).state
    unfolding bye_sent
    on_bye to o h = on_sent _ to 0 Bye o h

    pub on_gossip : (to : ℕ) (o : Effect) → R o.state → R (gossip_sent s k to o).state
    unfolding gossip_sent
    on_gossip to o h =
        let picked = on_riding _ o h in
        on_either _ _ _ picked (on_sent _ to 0 _ _ picked)

    pub on_call : (to seq : ℕ) (o : Effect) → R o.state → R (call_sent s k to seq o).state
    unfolding call_sent
    on_call to seq o h = on_posted _ to seq _ _ o (way_rest s k to (call_of s k.to to) o.state.words (call_rest s k.to to)) h

    pub on_answer : (to seq : ℕ) (o : Effect) → R o.state → R (answer_sent s k to seq o).state
    unfolding answer_sent
    on_answer to seq o h = on_posted _ to seq _ _ o (way_rest s k to (answer_of s k.to to) o.state.words (answer_rest s k.to to)) h

    pub on_push_sent : (to : ℕ) (o : Effect) → R o.state → R (push_sent s k to o).state
    unfolding push_sent
    on_push_sent to o h = on_posted _ to 0 _ _ o (way_rest s k to (kept_arrival_of s k.to to) o.state.words (kept_rest s k.to to)) h

    pub on_pull : (to : ℕ) (o : Effect) → R o.state → R (pull_sent s k to o).state
    unfolding pull_sent
    on_pull to o h = on_posted _ to 0 _ _ o (way_rest s k to (kept_arrival_of s k.to to) o.state.words (kept_rest s k.to to)) h

    -- messages one after another
    pub on_each : (send : ℕ → Effect → Effect) → ((to : ℕ) (o : Effect) → R o.state → R (send to o).state) → (others : List ℕ) (o : Effect) → R o.state
        → R (sent_to_each send others o).state
    unfolding sent_to_each
    on_each send each [] o h = h
    on_each send each (to ∷ others) o h = on_each send each others (send to o) (each to o h)

    -- ---- updates

    pub on_health : (h : LocalHealth) (o : Effect) → R (record o.state { health = h }) → R (with_health k h o).state
    unfolding with_health
    on_health h o r = on_either (nat_eq h.counter o.state.health.counter) (on_state (λ t. record t { health = h }) o) _ r (on_row _ None h.counter false _ r)

    pub on_refuted : (claim : Claim) (number : ℕ) (o : Effect) → does_refute (profile_of s) o.state.incarnation claim number ≡ true → R o.state → R (refuted s k (number + 1) o).state
    unfolding refuted
    on_refuted claim number o refutes h =
        let told = with_row k _ (Some k.to) (number + 1) false (on_state (λ t. record t { incarnation = number + 1 }) o) in
        on_put _ _ moves.own
        (on_health (raised told.state.health 1) told (moves.weakened told.state 1 (on_row _ (Some k.to) _ false _ (moves.refuted o.state claim number refutes h))))

    pub on_own_claim : (claim : Claim) (number : ℕ) (b : Bool) (o : Effect) → is_refuted (profile_of s) o.state claim number ≡ b → R o.state
        → R (cond b (refuted s k (number + 1) o) (cond (is_own_death (profile_of s) claim o.state.heard_dead) (heard_dead k number o) o)).state
    unfolding heard_dead
    on_own_claim claim number true o refutes h = on_refuted claim number o (refuted_does (profile_of s) o.state claim number refutes) h
    on_own_claim claim number false o refutes h =
        on_either (is_own_death (profile_of s) claim o.state.heard_dead) (heard_dead k number o) o (on_row _ (Some k.to) number false _ (moves.heard_dead o.state h)) h

    pub on_own : (claim : Claim) (number : ℕ) (o : Effect) → R o.state → R (own_applied s k claim number o).state
    on_own claim number o h = on_own_claim claim number (is_refuted (profile_of s) o.state claim number) o refl h

    pub on_subject : (telling : Announce) (u : Update) (b : Bool) (o : Effect) → Named u.subject → is_intent u.claim ≡ false → nat_eq u.subject k.to ≡ b → R o.state
        → R (cond b (own_applied s k u.claim u.inc o) (other_applied s telling k u (get o.state.table u.subject) o)).state
    on_subject telling u true o named spoken e h = on_own u.claim u.inc o h
    on_subject telling u false o named spoken e h = on_other telling u (get o.state.table u.subject) o named (eqb-false u.subject k.to e) spoken refl h

    pub on_claim_applied : (telling : Announce) (u : Update) (o : Effect) → Named u.subject → is_intent u.claim ≡ false → R o.state → R (claim_applied s telling k u o).state
    unfolding claim_applied
    on_claim_applied telling u o named spoken h = on_subject telling u (nat_eq u.subject k.to) o named spoken refl h

    pub on_spoken : (telling : Announce) (u : Update) (b : Bool) (o : Effect) → Named u.subject → is_intent u.claim ≡ b → R o.state → R (cond b (intent_applied s k u s.serf o) (claim_applied s telling k u o)).state
    on_spoken telling u true o named e h = on_intent u s.serf o named h
    on_spoken telling u false o named e h = on_claim_applied telling u o named e h

    pub on_applied : (telling : Announce) (u : Update) (o : Effect) → Named u.subject → R o.state → R (applied s telling k u o).state
    unfolding applied
    on_applied telling u o named h = on_spoken telling u (is_intent u.claim) o named refl h

    pub on_all : (telling : Announce) (us : List Update) (o : Effect) → AllNamed Named us → R o.state → R (all_applied s telling k us o).state
    unfolding all_applied
    on_all telling [] o named h = h
    on_all telling (u ∷ us) o named h = on_all telling us (applied s telling k u o) named.1 (on_applied telling u o named.0 h)

    -- ---- start, crash and join

    pub on_push_begun : (beat push : ℕ) (o : Effect) → R o.state → R (push_begun s k beat push o).state
    unfolding push_begun
    on_push_begun beat push o h = on_event _ k.to PushTimer _ (moves.drawn o.state (below_of o.state.words push).1 (below_rest o.state.words push) h)

    pub on_even_push : (beat push : ℕ) (o : Effect) → R o.state → R (even_push_begun s k beat push o).state
    unfolding even_push_begun
    on_even_push beat push o h =
        let period = push_period push (size_by (profile_of s) o.state.table) in
        on_event _ k.to PushTimer _ (moves.drawn o.state (below_of o.state.words period).1 (below_rest o.state.words period) h)

    pub on_push_begun_by : (profile : Profile) (beat push : ℕ) (o : Effect) → R o.state → R (push_begun_by profile s k beat push o).state
    on_push_begun_by Papers beat push o h = on_push_begun beat push o h
    on_push_begun_by Memberlist beat push o h = on_push_begun beat push o h
    on_push_begun_by Hashicorp beat push o h = on_even_push beat push o h

    pub on_first_push : (beat : ℕ) (gossip : Option settings.Gossip) (o : Effect) → R o.state → R (first_push_set s k beat gossip o).state
    on_first_push beat None o h = h
    on_first_push beat (Some gossip) o h = on_either (nat_eq gossip.push 0) o (push_begun_by (profile_of s) s k beat gossip.push o) h (on_push_begun_by (profile_of s) beat gossip.push o h)

    pub on_first_period : (o : Effect) → R o.state → R (first_period_set s k o).state
    unfolding first_period_set
    on_first_period o h =
        let drawn = below_of o.state.words s.swim.spread in
        on_first_push _ s.gossip _ (on_timer _ PeriodTimer _ (moves.beaten (record o.state { words = drawn.1 }) _ (moves.drawn o.state drawn.1 (below_rest o.state.words s.swim.spread) h)))

    pub on_first_round : (profile : Profile) (t : State) → R t → R (first_round profile t)
    on_first_round Papers t h = h
    on_first_round Memberlist t h = h
    on_first_round Hashicorp t h = moves.mixed t h

    pub on_began : (o : Effect) → R (at_once s k o.state) → R (began s k o).state
    unfolding began
    on_began o h = on_first_period _ (on_first_round (profile_of s) (at_once s k o.state) h)

    pub on_join_asked : (o : Effect) → R o.state → R (join_asked s k o).state
    unfolding join_asked
    on_join_asked o h = on_timer s.swim.period JoinTimer _ (on_join o h)

    pub on_late : (o : Effect) → R (at_late o.state) → R (joining_begun s k o).state
    unfolding joining_begun
    on_late o h = on_join_asked _ h

    pub on_started : (o : Effect) → R (at_once s k o.state) → R (at_late o.state) → R (started s k o).state
    unfolding started with_row
    on_started o once late =
        on_either (nat_eq (start_of s k.to) 0) (began s k (with_row k _ None 0 false o)) (joining_begun s k (with_row k _ None 0 false o))
        (on_began (with_row k _ None 0 false o) once) (on_late (with_row k _ None 0 false o) late)

    pub on_crashed : (o : Effect) → R o.state → R (crashed k o).state
    unfolding crashed
    on_crashed o h = on_row _ None 0 false _ (moves.downed o.state h)

    pub on_join_handled : (o : Effect) → Named k.from → R o.state → R (join_handled s k o).state
    unfolding join_handled
    on_join_handled o sender h = on_welcome k.from _ (on_applied Aloud _ o sender h)

    pub on_joined : (entries : List Update) (o : Effect) → AllNamed Named entries → R o.state → R (joined s k entries o).state
    unfolding joined
    on_joined entries o named h =
        on_first_period _ (on_all Quietly entries _ named (on_row _ (Some k.from) _ false _ (moves.welcomed o.state h)))

    -- ---- probes

    pub on_suspected : (target : ℕ) (held : Option (Claim × ℕ)) (o : Effect) → get o.state.table target ≡ held → R o.state → R (suspected s k target held o).state
    on_suspected target None o none h = h
    on_suspected target (Some held) o here h =
        on_either (is_confirm held.0) o (applied s Aloud k (record { subject = target; claim = Suspect; inc = held.1; accuser = k.to }) o)
        h (on_applied Aloud _ o (moves.known o.state target held h here) h)

    -- the health after a probe, whatever came of it
    pub on_weighed : (b : Bool) (failures : ℕ) (t : State) → R t → R (record t { health = cond b (lowered t.health) (raised t.health failures) })
    on_weighed true failures t h = moves.mended t h
    on_weighed false failures t h = moves.weakened t failures h

    pub on_failed : (probe : Probe) (o : Effect) → R o.state → R (probe_failed s k probe o).state
    unfolding probe_failed
    on_failed probe o h =
        let told = with_row k _ (Some probe.target) probe.seq false o in
        on_suspected probe.target _ _ refl
        (on_health (after_probe told.state.health probe) told (on_weighed probe.acked (failures_of probe) told.state (on_row _ (Some probe.target) probe.seq false o h)))

    pub on_ended : (probe : Option Probe) (o : Effect) → R o.state → R (probe_ended s k probe o).state
    unfolding probe_ended
    on_ended None o h = h
    on_ended (Some probe) o h =
        on_either probe.acked (with_health k (after_probe o.state.health probe) o) (probe_failed s k probe o)
        (on_health (after_probe o.state.health probe) o (on_weighed probe.acked (failures_of probe) o.state h)) (on_failed probe o h)

    pub on_begun : (target : ℕ) (o : Effect) → Named target → R o.state → R (probe_begun s k target o).state
    unfolding probe_begun
    on_begun target o named h =
        on_timer _ _ _ (on_ping target k.to _ _ (moves.probing o.state (o.state.sequence + 1) _ (omega arith) (one_target Named (fresh_probe (o.state.sequence + 1) target) named) h))

    pub on_target : (target : Option ℕ) (o : Effect) → ((q : ℕ) → target ≡ Some q → Named q) → R o.state → R (target_probed s k target o).state
    on_target None o named h = moves.probing o.state o.state.sequence None (omega arith) (no_target Named) h
    on_target (Some target) o named h = on_begun target o (named target refl) h

    pub on_next : (o : Effect) → R o.state → R (next_probed s k o).state
    unfolding next_probed
    on_next o h = on_target (next_of o.state.words o.state.rota).0 _ (λ q is. moves.targets o.state q h is) (moves.turned o.state h)

    pub on_period : (o : Effect) → R o.state → R (period_begun s k o).state
    unfolding period_begun
    on_period o h = on_timer _ PeriodTimer _ (on_next _ (on_ended o.state.probe o h))

    pub on_expected : (probe : Probe) (count : ℕ) (o : Effect) → Named probe.target → R o.state → R (with_expected s probe count o).state
    on_expected probe count o named h =
        on_either s.lifeguard.probe _ o (moves.probing o.state o.state.sequence _ (omega arith) (one_target Named (record probe { expected = count }) named) h) h

    pub on_help : (probe : Probe) (o : Effect) → Named probe.target → R o.state → R (help_asked s k probe o).state
    unfolding help_asked helpers_of
    on_help probe o named h =
        on_expected probe _ _ named (on_each (ping_req_sent s k probe.target probe.seq) (on_ping_req probe.target probe.seq) _ _
        (moves.drawn o.state _ (shuffle_rest o.state.words (alive_but probe.target o.state.table)) h))

    pub on_timed_out : (seq : ℕ) (probe : Option Probe) (o : Effect) → o.state.probe ≡ probe → R o.state → R (timed_out s k seq probe o).state
    unfolding timed_out
    on_timed_out seq None o here h = h
    on_timed_out seq (Some probe) o here h =
        on_either (nat_eq probe.seq seq && not probe.acked && nat_lt 0 s.swim.helpers) (help_asked s k probe o) o (on_help probe o (moves.aimed o.state probe h here) h) h

    pub on_nack_heard : (seq : ℕ) (o : Effect) → R o.state → R (nack_heard seq o).state
    unfolding nack_heard
    on_nack_heard seq o h = moves.probing o.state o.state.sequence (nacked seq o.state.probe) (omega arith) (nacked_target Named seq o.state.probe (λ p is. moves.aimed o.state p h is)) h

    pub on_ping_heard : (initiator seq : ℕ) (updates : List Update) (o : Effect) → AllNamed Named updates → R o.state → R (ping_heard s k initiator seq updates o).state
    unfolding ping_heard
    on_ping_heard initiator seq updates o named h = on_ack k.from initiator seq _ (on_all Aloud updates o named h)

    pub on_relay : (b : Bool) (seq : ℕ) (o : Effect) → s.lifeguard.probe ≡ b → R o.state → R (cond b (with_relay s k seq o) o).state
    on_relay true seq o on h = on_timer _ _ _ (moves.relay_added o.state (k.from, seq) (ap (λ b. b || keeps_relays (profile_of s)) on) h)
    on_relay false seq o off h = h

    pub on_ping_req_heard : (seq target : ℕ) (updates : List Update) (o : Effect) → AllNamed Named updates → R o.state → R (ping_req_heard s k seq target updates o).state
    unfolding ping_req_heard
    on_ping_req_heard seq target updates o named h = on_relay s.lifeguard.probe seq _ refl (on_ping target k.from seq _ (on_all Aloud updates o named h))

    pub on_taken : (initiator seq : ℕ) (o : Effect) → R o.state → R (ack_taken s k initiator seq o).state
    unfolding ack_taken
    on_taken initiator seq o h =
        on_either (nat_eq initiator k.to) (on_state (λ t. record t { probe = answered seq t.probe }) o) _
        (moves.probing o.state o.state.sequence (answered seq o.state.probe) (omega arith) (answered_target Named seq o.state.probe (λ p is. moves.aimed o.state p h is)) h)
        (on_ack initiator initiator seq _ (moves.relay_removed o.state (initiator, seq) h))

    pub on_ack_heard : (initiator seq : ℕ) (updates : List Update) (o : Effect) → AllNamed Named updates → R o.state → R (ack_heard s k initiator seq updates o).state
    unfolding ack_heard
    on_ack_heard initiator seq updates o named h = on_taken initiator seq _ (on_all Aloud updates o named h)

    pub on_nack_due : (initiator seq : ℕ) (o : Effect) → R o.state → R (nack_due s k initiator seq o).state
    unfolding nack_due
    on_nack_due initiator seq o h =
        on_either (set.contains o.state.relays (initiator, seq)) _ o (on_nack initiator seq _ (moves.relay_removed o.state (initiator, seq) h)) h

    -- ---- suspicions

    pub on_confirmed : (subject : ℕ) (held : Option (Claim × ℕ)) (o : Effect) → get o.state.table subject ≡ held → R o.state → R (confirmed s k subject held o).state
    on_confirmed subject None o none h = h
    on_confirmed subject (Some held) o here h = on_applied Aloud _ o (moves.known o.state subject held h here) h

    pub on_over : (subject : ℕ) (o : Effect) → R o.state → R (suspicion_over s k subject o).state
    unfolding suspicion_over
    on_over subject o h =
        on_either (is_due o.state.suspicions subject k.number) (confirmed s k subject (get o.state.table subject) o) o (on_confirmed subject (get o.state.table subject) o refl h) h

    -- ---- leaves

    pub on_withdrawn : (o : Effect) → R o.state → R (withdrawn k o).state
    unfolding withdrawn
    on_withdrawn o h = moves.downed _ (on_row _ None 0 false o h)

    pub on_byes : (o : Effect) → R o.state → R (byes_said s k o).state
    unfolding byes_said helpers_of
    on_byes o h = on_each (bye_sent s k) on_bye _ _ (moves.drawn o.state _ (shuffle_rest o.state.words (alive_but k.to o.state.table)) h)

    pub on_departed : (o : Effect) → R o.state → R (departed s k o).state
    unfolding departed
    on_departed o h = moves.downed _ (on_byes _ (on_row _ None 0 false o h))

    -- ---- probes by memberlist's rules

    pub on_suspected_at : (probe : Probe) (held : Option (Claim × ℕ)) (o : Effect) → get o.state.table probe.target ≡ held → R o.state → R (suspected_at s k probe held o).state
    on_suspected_at probe None o none h = h
    on_suspected_at probe (Some held) o here h =
        on_either (is_confirm held.0) o (applied s Aloud k (record { subject = probe.target; claim = Suspect; inc = probe.number; accuser = k.to }) o)
        h (on_applied Aloud _ o (moves.known o.state probe.target held h here) h)

    pub on_timed_failed : (probe : Probe) (o : Effect) → R o.state → R (timed_probe_failed s k probe o).state
    unfolding timed_probe_failed
    on_timed_failed probe o h =
        let told = with_row k _ (Some probe.target) probe.seq false o in
        on_suspected_at probe _ _ refl
        (on_health (after_deadline told.state.health probe) told (on_weighed probe.reached (misses_of probe) told.state (on_row _ (Some probe.target) probe.seq false o h)))

    pub on_settled : (probe : Option Probe) (o : Effect) → R o.state → R (probe_settled s k probe o).state
    unfolding probe_settled
    on_settled None o h = h
    on_settled (Some probe) o h =
        let ended = on_state (λ t. record t { probe = None }) o in
        let none : R ended.state = moves.probing o.state o.state.sequence None (omega arith) (no_target Named) h in
        on_either probe.reached (with_health k (after_deadline ended.state.health probe) ended) (timed_probe_failed s k probe ended)
        (on_health (after_deadline ended.state.health probe) ended (on_weighed probe.reached (misses_of probe) ended.state none)) (on_timed_failed probe ended none)

    pub on_timers : (next_beat : Option ℕ) (seq timeout deadline : ℕ) (o : Effect) → R o.state → R (probe_timers_set s k next_beat seq timeout deadline o).state
    on_timers next_beat seq timeout deadline o h =
        let timed = with_timer s k timeout (TimeoutTimer seq) o in
        let there : R timed.state = on_timer timeout (TimeoutTimer seq) o h in
        on_either (needs_timer next_beat deadline) (with_event s k deadline k.to (DeadlineTimer seq) timed) (on_state with_number timed)
        (on_event deadline k.to (DeadlineTimer seq) timed there) (on_number timed there)

    pub on_timed_begun : (next_beat : Option ℕ) (target : ℕ) (o : Effect) → Named target → R o.state → R (timed_probe_begun s k next_beat target o).state
    unfolding timed_probe_begun
    on_timed_begun next_beat target o named h =
        let seq = o.state.sequence + 1 in
        let probe = timed_probe seq target (option_map_or (λ held. held.1) (get o.state.table target) 0) (k.at + scaled o.state.health s.swim.period) in
        on_timers next_beat _ _ _ _ (on_ping target k.to seq _ (moves.probing o.state seq (Some probe) (omega arith) (one_target Named probe named) h))

    pub on_timed_target : (next_beat target : Option ℕ) (o : Effect) → ((q : ℕ) → target ≡ Some q → Named q) → R o.state → R (timed_target_probed s k next_beat target o).state
    on_timed_target next_beat None o named h = moves.probing o.state o.state.sequence None (omega arith) (no_target Named) h
    on_timed_target next_beat (Some target) o named h = on_timed_begun next_beat target o (named target refl) h

    pub on_next_timed : (next_beat : Option ℕ) (o : Effect) → R o.state → R (next_timed_probed s k next_beat o).state
    unfolding next_timed_probed
    on_next_timed next_beat o h = on_timed_target next_beat (next_of o.state.words o.state.rota).0 _ (λ q is. moves.targets o.state q h is) (moves.turned o.state h)

    pub on_waiting_probed : (o : Effect) → R o.state → R (waiting_probed s k o).state
    on_waiting_probed o h = on_either o.state.waits _ o (on_next_timed None (on_state (λ t. record t { waits = false }) o) (moves.waiting o.state false h)) h

    pub on_in_turn : (next_beat : ℕ) (o : Effect) → R o.state → R (probed_in_turn s k next_beat o).state
    on_in_turn next_beat o h =
        on_either (has_time k.at o.state.probe) _ _ (moves.waiting o.state true h) (on_next_timed (Some next_beat) _ (on_settled o.state.probe o h))

    pub on_beaten : (o : Effect) → R o.state → R (period_beaten s k o).state
    unfolding period_beaten
    on_beaten o h = on_in_turn _ _ (on_event _ k.to PeriodTimer o h)

    pub on_deadline : (seq : ℕ) (o : Effect) → R o.state → R (deadline_over s k seq o).state
    unfolding deadline_over
    on_deadline seq o h = on_either (is_under_way seq o.state.probe) _ o (on_waiting_probed _ (on_settled o.state.probe o h)) h

    pub on_timed_answered : (seq : ℕ) (o : Effect) → R o.state → R (timed_answered s k seq o).state
    unfolding timed_answered
    on_timed_answered seq o h =
        let ended = on_state (λ t. record t { probe = None }) o in
        on_either (is_under_way seq o.state.probe) _ o
        (on_waiting_probed _ (on_health (lowered o.state.health) ended (moves.mended ended.state (moves.probing o.state o.state.sequence None (omega arith) (no_target Named) h)))) h

    pub on_timed_ack : (initiator seq : ℕ) (updates : List Update) (o : Effect) → AllNamed Named updates → R o.state → R (timed_ack_heard s k initiator seq updates o).state
    unfolding timed_ack_heard
    on_timed_ack initiator seq updates o named h =
        let heard = on_all Aloud updates o named h in
        on_either (nat_eq initiator k.to) _ _ (on_timed_answered seq _ heard) (on_taken initiator seq _ heard)

    pub on_sampled : (probe : Probe) (o : Effect) → Named probe.target → R o.state → R (sampled_help s k probe o).state
    unfolding sampled_help
    on_sampled probe o named h =
        on_expected probe _ _ named (on_each (ping_req_sent s k probe.target probe.seq) (on_ping_req probe.target probe.seq) _ _
        (moves.drawn o.state _ (sample_rest o.state.words s.swim.helpers _) h))

    pub on_called : (probe : Probe) (o : Effect) → R o.state → R (called s k probe o).state
    on_called probe o h = on_either s.swim.fallback _ o (on_call probe.target probe.seq o h) h

    pub on_helped : (probe : Probe) (o : Effect) → Named probe.target → R o.state → R (helped s k probe o).state
    on_helped probe o named h = on_either (nat_lt 0 s.swim.helpers) _ o (on_sampled probe o named h) h

    pub on_timed_out_timed : (seq : ℕ) (probe : Option Probe) (o : Effect) → o.state.probe ≡ probe → R o.state → R (timed_out_timed s k seq probe o).state
    unfolding timed_out_timed
    on_timed_out_timed seq None o here h = h
    on_timed_out_timed seq (Some probe) o here h =
        on_either (nat_eq probe.seq seq) _ o (on_called probe _ (on_helped probe o (moves.aimed o.state probe h here) h)) h

    pub on_answer_heard : (seq : ℕ) (o : Effect) → R o.state → R (answer_heard seq o).state
    unfolding answer_heard
    on_answer_heard seq o h = moves.probing o.state o.state.sequence (reached seq o.state.probe) (omega arith) (reached_target Named seq o.state.probe (λ p is. moves.aimed o.state p h is)) h

    -- ---- gossip and pushes

    pub on_spread : (gossip : settings.Gossip) (o : Effect) → R o.state → R (gossip_spread s k gossip o).state
    unfolding gossip_spread
    on_spread gossip o h = on_each (gossip_sent s k) on_gossip _ _ (moves.drawn o.state _ (sample_rest o.state.words gossip.nodes _) h)

    pub on_set_again : (o : Effect) → R o.state → R (gossip_set_again s k o).state
    on_set_again o h = on_either (is_told_out o.state) o _ h (on_gossip_set s.gossip o h)

    pub on_round : (gossip : settings.Gossip) (o : Effect) → R o.state → R (gossip_round s k gossip o).state
    on_round gossip o h = on_either (is_told_out o.state) o _ h (on_set_again _ (on_spread gossip o h))

    pub on_gossip_due : (gossip : Option settings.Gossip) (o : Effect) → R o.state → R (gossip_due s k gossip o).state
    on_gossip_due None o h = h
    on_gossip_due (Some gossip) o h = on_round gossip _ (news.gossiping o.state false h)

    all_merged : (b : Bool) (u : Update) → Named u.subject → Named (cond b u (record u { claim = Suspect; accuser = k.to })).subject
    all_merged true u named = named
    all_merged false u named = named

    pub merged_named : (us : List Update) → AllNamed Named us → AllNamed Named (map (merged_claim k.to) us)
    merged_named [] named = tt
    merged_named (u ∷ us) named = (all_merged (is_alive u.claim) u named.0, merged_named us named.1)

    pub on_merged : (us : List Update) (o : Effect) → AllNamed Named us → R o.state → R (merged s k us o).state
    unfolding merged
    on_merged us o named h = on_all Aloud (map (merged_claim k.to) us) o (merged_named us named) h

    pub on_pushed : (push : ℕ) (o : Effect) → R o.state → R (pushed s k push o).state
    unfolding pushed
    on_pushed push o h = on_each (push_sent s k) on_push_sent _ _ (on_timer _ PushTimer _ (moves.drawn o.state _ (sample_rest o.state.words 1 _) h))

    pub on_push_due : (gossip : Option settings.Gossip) (o : Effect) → R o.state → R (push_due s k gossip o).state
    on_push_due None o h = h
    on_push_due (Some gossip) o h = on_either (nat_eq gossip.push 0) o _ h (on_pushed gossip.push o h)

    pub on_push_heard : (us : List Update) (o : Effect) → AllNamed Named us → R o.state → R (push_heard s k us o).state
    unfolding push_heard
    on_push_heard us o named h = on_merged us _ named (on_pull k.from o h)

    -- ---- the step

    pub on_plain : (content : EventKind) (phase : Phase) (o : Effect) → o.state.phase ≡ phase → Named k.from → NamesOnly Named (Unit {0}) content → R o.state → R (plain_handled s k content phase o).state
    unfolding plain_handled
    on_plain Start Waiting o is sender named h = on_started o (moves.began o.state is h) (moves.late o.state is h)
    on_plain Start Joining o is sender named h = h
    on_plain Start Running o is sender named h = h
    on_plain Start Down o is sender named h = h
    on_plain Crash Waiting o is sender named h = h
    on_plain Crash Joining o is sender named h = on_crashed o h
    on_plain Crash Running o is sender named h = on_crashed o h
    on_plain Crash Down o is sender named h = h
    on_plain JoinTimer Waiting o is sender named h = h
    on_plain JoinTimer Joining o is sender named h = on_join_asked o h
    on_plain JoinTimer Running o is sender named h = h
    on_plain JoinTimer Down o is sender named h = h
    on_plain PeriodTimer Waiting o is sender named h = h
    on_plain PeriodTimer Joining o is sender named h = h
    on_plain PeriodTimer Running o is sender named h = on_period o h
    on_plain PeriodTimer Down o is sender named h = h
    on_plain (TimeoutTimer seq) Waiting o is sender named h = h
    on_plain (TimeoutTimer seq) Joining o is sender named h = h
    on_plain (TimeoutTimer seq) Running o is sender named h = on_timed_out seq o.state.probe o refl h
    on_plain (TimeoutTimer seq) Down o is sender named h = h
    on_plain (NackTimer initiator seq) Waiting o is sender named h = h
    on_plain (NackTimer initiator seq) Joining o is sender named h = h
    on_plain (NackTimer initiator seq) Running o is sender named h = on_nack_due initiator seq o h
    on_plain (NackTimer initiator seq) Down o is sender named h = h
    on_plain (SuspicionTimer subject) Waiting o is sender named h = h
    on_plain (SuspicionTimer subject) Joining o is sender named h = h
    on_plain (SuspicionTimer subject) Running o is sender named h = on_over subject o h
    on_plain (SuspicionTimer subject) Down o is sender named h = h
    on_plain Join Waiting o is sender named h = h
    on_plain Join Joining o is sender named h = h
    on_plain Join Running o is sender named h = on_join_handled o sender h
    on_plain Join Down o is sender named h = h
    on_plain (Welcome entries) Waiting o is sender named h = h
    on_plain (Welcome entries) Joining o is sender named h = on_joined entries o named h
    on_plain (Welcome entries) Running o is sender named h = h
    on_plain (Welcome entries) Down o is sender named h = h
    on_plain (Ping initiator seq updates) Waiting o is sender named h = h
    on_plain (Ping initiator seq updates) Joining o is sender named h = h
    on_plain (Ping initiator seq updates) Running o is sender named h = on_ping_heard initiator seq updates o named.1 h
    on_plain (Ping initiator seq updates) Down o is sender named h = h
    on_plain (PingReq target seq updates) Waiting o is sender named h = h
    on_plain (PingReq target seq updates) Joining o is sender named h = h
    on_plain (PingReq target seq updates) Running o is sender named h = on_ping_req_heard seq target updates o named.1 h
    on_plain (PingReq target seq updates) Down o is sender named h = h
    on_plain (Ack initiator seq updates) Waiting o is sender named h = h
    on_plain (Ack initiator seq updates) Joining o is sender named h = h
    on_plain (Ack initiator seq updates) Running o is sender named h = on_ack_heard initiator seq updates o named.1 h
    on_plain (Ack initiator seq updates) Down o is sender named h = h
    on_plain (Nack seq) Waiting o is sender named h = h
    on_plain (Nack seq) Joining o is sender named h = h
    on_plain (Nack seq) Running o is sender named h = on_nack_heard seq o h
    on_plain (Nack seq) Down o is sender named h = h
    on_plain Leave phase o is sender named h = h
    on_plain Bye phase o is sender named h = h
    on_plain (DeadlineTimer seq) phase o is sender named h = h
    on_plain GossipTimer phase o is sender named h = h
    on_plain PushTimer phase o is sender named h = h
    on_plain (Call seq) phase o is sender named h = h
    on_plain (Answer seq) phase o is sender named h = h
    on_plain (Gossip updates) phase o is sender named h = h
    on_plain (Push entries) phase o is sender named h = h
    on_plain (Pull entries) phase o is sender named h = h
    on_plain (Restart contact) phase o is sender named h = h
    on_plain SettingTimer phase o is sender named h = h
    on_plain (ConnectedTimer to) phase o is sender named h = h
    on_plain ReconnectTimer phase o is sender named h = h
    on_plain ExitTimer phase o is sender named h = h

    pub on_handled : (content : EventKind) (phase : Phase) (o : Effect) → o.state.phase ≡ phase → Named k.from → NamesOnly Named (Unit {0}) content → R o.state → R (handled s k content phase o).state
    unfolding handled
    on_handled Leave Joining o is sender named h = on_withdrawn o h
    on_handled Leave Running o is sender named h = on_departed o h
    on_handled Bye Running o is sender named h = on_confirmed k.from (get o.state.table k.from) o refl h
    on_handled content phase o is sender named h = on_plain content phase o is sender named h

    pub on_timed : (content : EventKind) (o : Effect) → o.state.phase ≡ Running → Named k.from → NamesOnly Named (Unit {0}) content → R o.state → R (timed_handled s k content o).state
    unfolding timed_handled
    on_timed PeriodTimer o is sender named h = on_beaten o h
    on_timed (TimeoutTimer seq) o is sender named h = on_timed_out_timed seq o.state.probe o refl h
    on_timed (DeadlineTimer seq) o is sender named h = on_deadline seq o h
    on_timed (Ack initiator seq updates) o is sender named h = on_timed_ack initiator seq updates o named.1 h
    on_timed (Call seq) o is sender named h = on_answer k.from seq o h
    on_timed (Answer seq) o is sender named h = on_answer_heard seq o h
    on_timed GossipTimer o is sender named h = on_gossip_due s.gossip o h
    on_timed (Gossip updates) o is sender named h = on_all Aloud updates o named h
    on_timed PushTimer o is sender named h = on_push_due s.gossip o h
    on_timed (Push entries) o is sender named h = on_push_heard entries o named h
    on_timed (Pull entries) o is sender named h = on_merged entries o named h
    on_timed content o is sender named h = on_handled content Running o is sender named h

    -- ---- by memberlist 0.5.0's rules

    pub on_plain_ping : (to initiator seq : ℕ) (o : Effect) → R o.state → R (plain_ping_sent s k to initiator seq o).state
    unfolding plain_ping_sent
    on_plain_ping to initiator seq o h = on_sent _ to seq _ _ (on_riding _ o h)

    pub on_lone : (to seq : ℕ) (buddy : Option Update) (o : Effect) → R o.state → R (ping_with_lone s k to seq buddy o).state
    on_lone to seq None o h = on_plain_ping to k.to seq o h
    on_lone to seq (Some buddy) o h = on_sent _ to seq _ o h

    pub on_probe_ping : (to seq : ℕ) (o : Effect) → R o.state → R (probe_ping_sent s k to seq o).state
    unfolding probe_ping_sent
    on_probe_ping to seq o h = on_lone to seq (lone_buddy_of s k.to to o.state) o h

    pub on_both_timers : (seq timeout deadline : ℕ) (o : Effect) → R o.state → R (both_timers_set s k seq timeout deadline o).state
    on_both_timers seq timeout deadline o h =
        let timed = with_timer s k timeout (TimeoutTimer seq) o in
        let there : R timed.state = on_timer timeout (TimeoutTimer seq) o h in
        on_either (is_in_step timed.state.beat s.swim.period deadline) (on_state with_number timed) (with_event s k deadline k.to (DeadlineTimer seq) timed)
        (on_number timed there) (on_event deadline k.to (DeadlineTimer seq) timed there)

    pub on_single_begun : (target : ℕ) (o : Effect) → Named target → R o.state → R (single_probe_begun s k target o).state
    unfolding single_probe_begun
    on_single_begun target o named h =
        let seq = o.state.sequence + 1 in
        let probe = timed_probe seq target (option_map_or (λ held. held.1) (get o.state.table target) 0) (k.at + scaled o.state.health s.swim.period) in
        on_both_timers _ _ _ _ (on_probe_ping target seq _ (moves.probing o.state seq (Some probe) (omega arith) (one_target Named probe named) h))

    pub on_blocked_begun : (target departs : ℕ) (o : Effect) → Named target → R o.state → R (blocked_probe_begun s k target departs o).state
    unfolding blocked_probe_begun
    on_blocked_begun target departs o named h =
        let seq = o.state.sequence + 1 in
        let deadline = max (k.at + scaled o.state.health s.swim.period) departs in
        let probe = timed_probe seq target (option_map_or (λ held. held.1) (get o.state.table target) 0) deadline in
        on_event deadline k.to (DeadlineTimer seq) _
        (on_event (min (departs + s.swim.timeout) deadline) k.to (TimeoutTimer seq) _
        (on_probe_ping target seq _ (moves.probing o.state seq (Some probe) (omega arith) (one_target Named probe named) h)))

    pub on_departing : (target departs : ℕ) (o : Effect) → Named target → R o.state → R (departing_probe_begun s k target departs o).state
    on_departing target departs o named h =
        on_either (nat_lt k.at departs) (blocked_probe_begun s k target departs o) (single_probe_begun s k target o) (on_blocked_begun target departs o named h) (on_single_begun target o named h)

    pub on_single_target : (target : Option ℕ) (o : Effect) → ((q : ℕ) → target ≡ Some q → Named q) → R o.state → R (single_target_probed s k target o).state
    on_single_target None o named h = moves.probing o.state o.state.sequence None (omega arith) (no_target Named) h
    on_single_target (Some target) o named h = on_departing target (departs_at s k) o (named target refl) h

    -- who has been dead for long is forgotten, where that keeps the fact
    module _ (forgets : (t : State) (q : ℕ) (held : Claim × ℕ) → get t.table q ≡ Some held → is_confirm held.0 ≡ true → R t → R (without_entry q t)) where
      on_forgotten_if : (member : ℕ) (held : Option (Claim × ℕ)) (o : Effect) → get o.state.table member ≡ held → R o.state → R (forgotten_if s k member held o).state
      on_forgotten_if member None o none h = h
      on_forgotten_if member (Some held) o here h = either (is_long_dead k.at (kept_for s.gossip) (o.state.since member) held.0) refl
        where
          gone : Effect
          gone = on_state (without_entry member) o

          either : (b : Bool) → is_long_dead k.at (kept_for s.gossip) (o.state.since member) held.0 ≡ b → R (cond b (with_row k what.Forget (Some member) held.1 false gone) o).state
          either true dead = on_row what.Forget (Some member) held.1 false gone (forgets o.state member held here (and_parts _ _ dead).0 h)
          either false dead = h

      pub on_forgotten : (count : ℕ) (o : Effect) → R o.state → R (all_forgotten s k count o).state
      unfolding all_forgotten
      on_forgotten zero o h = h
      on_forgotten (suc count) o h = on_forgotten_if count _ (all_forgotten s k count o) refl (on_forgotten count o h)

      pub on_round_ended : (o : Effect) → R o.state → R (round_ended s k o).state
      unfolding round_ended
      on_round_ended o h = on_either (o.state.rota.mark == length o.state.rota.members) (all_forgotten s k (member_count s) o) o (on_forgotten (member_count s) o h) h

    pub on_turn_probed : (o : Effect) → R o.state → R (turn_probed s k o).state
    unfolding turn_probed
    on_turn_probed o h = on_single_target (next_of o.state.words o.state.rota).0 _ (λ q is. moves.targets o.state q h is) (moves.turned o.state h)

    module _ (rules : profile_of s ≡ Hashicorp) where
      pub on_next_single : (o : Effect) → R o.state → R (next_single_probed s k o).state
      unfolding next_single_probed
      on_next_single o h = on_turn_probed (round_ended s k o) (on_round_ended (λ t q held here dead r. moves.forgotten t q held rules here dead r) o h)

      pub on_if_waiting : (o : Effect) → R o.state → R (next_if_waiting s k o).state
      on_if_waiting o h = on_either o.state.waits _ o (on_next_single (on_state (λ t. record t { waits = false }) o) (moves.waiting o.state false h)) h

      pub on_beat_taken : (o : Effect) → R o.state → R (single_beat_taken s k o).state
      on_beat_taken o h =
          on_either (has_time k.at o.state.probe) _ _ (moves.waiting o.state true h)
          (on_next_single _ (on_settled o.state.probe (on_state (λ t. record t { waits = false }) o) (moves.waiting o.state false h)))

      pub on_single_beaten : (o : Effect) → R o.state → R (single_beaten s k o).state
      unfolding single_beaten
      on_single_beaten o h = on_beat_taken _ (on_event _ k.to PeriodTimer o h)

      pub on_single_deadline : (seq : ℕ) (o : Effect) → R o.state → R (single_deadline_over s k seq o).state
      unfolding single_deadline_over
      on_single_deadline seq o h = on_either (is_under_way seq o.state.probe) _ o (on_if_waiting _ (on_settled o.state.probe o h)) h

      pub on_single_answered : (seq : ℕ) (o : Effect) → R o.state → R (single_answered s k seq o).state
      unfolding single_answered
      on_single_answered seq o h =
          let ended = on_state (λ t. record t { probe = None }) o in
          on_either (is_under_way seq o.state.probe) _ o
          (on_if_waiting _ (on_health (lowered o.state.health) ended (moves.mended ended.state (moves.probing o.state o.state.sequence None (omega arith) (no_target Named) h)))) h

      pub on_help_given : (seq target : ℕ) (o : Effect) → has_relays s ≡ true → R o.state → R (help_given s k seq target o).state
      on_help_given seq target o on h =
          let pinged = plain_ping_sent s k target k.from seq o in
          on_timer _ _ _ (moves.relay_added pinged.state (k.from, seq) on (on_plain_ping target k.from seq o h))

      pub on_single_ack_taken : (initiator seq : ℕ) (o : Effect) → R o.state → R (single_ack_taken s k initiator seq o).state
      on_single_ack_taken initiator seq o h =
          on_either (nat_eq initiator k.to) _ _ (on_single_answered seq o h)
          (on_either (set.contains o.state.relays (initiator, seq)) _ o (on_ack initiator initiator seq _ (moves.relay_removed o.state (initiator, seq) h)) h)

      pub on_help_over : (initiator seq : ℕ) (o : Effect) → R o.state → R (help_over s k initiator seq o).state
      unfolding help_over
      on_help_over initiator seq o h = on_either s.lifeguard.probe _ _ (on_nack_due initiator seq o h) (moves.relay_removed o.state (initiator, seq) h)

      pub on_single : (content : EventKind) (o : Effect) → o.state.phase ≡ Running → Named k.from → NamesOnly Named (Unit {0}) content → R o.state
          → R (single_handled s k content o).state
      unfolding single_handled ping_answered help_asked_for single_ack_heard
      on_single PeriodTimer o is sender named h = on_single_beaten o h
      on_single (DeadlineTimer seq) o is sender named h = on_single_deadline seq o h
      on_single (Ping initiator seq updates) o is sender named h = on_all Aloud updates _ named.1 (on_pings_ack k.from initiator seq o h)
      on_single (PingReq target seq updates) o is sender named h = on_all Aloud updates _ named.1 (on_help_given seq target o (always_relays s rules) h)
      on_single (Ack initiator seq updates) o is sender named h = on_all Aloud updates _ named.1 (on_single_ack_taken initiator seq o h)
      on_single (NackTimer initiator seq) o is sender named h = on_help_over initiator seq o h
      on_single content o is sender named h = on_timed content o is sender named h

    -- ---- processes

    pub on_dialed : (tells : What) (to : ℕ) (there : Option ℕ) (o : Effect) → R o.state → R (dialed s k tells to there o).state
    on_dialed tells to None o h = on_row tells (Some to) 0 true o h
    on_dialed tells to (Some there) o h = on_event there k.to (ConnectedTimer to) (with_row k tells (Some to) 0 false o) (on_row tells (Some to) 0 false o h)

    pub on_push_dialed : (to : ℕ) (there : Option ℕ) (o : Effect) → R o.state → R (push_dialed s k to there o).state
    on_push_dialed to None o h = on_row what.Push (Some to) 0 true o h
    on_push_dialed to (Some there) o h = on_event there k.to (ConnectedTimer to) o h

    -- the words that a dial leaves
    pub on_drawn_dial : (to : ℕ) (t : State) → R t → R (with_words (dial_drawn s k to t).1 t)
    on_drawn_dial to t h = moves.drawn t (dial_drawn s k to t).1 (dial_rest s k.to to (departs_at s k) s.dial.limit t.words) h

    pub on_contact_dialed : (contact : ℕ) (o : Effect) → R o.state → R (contact_dialed s k contact o).state
    unfolding contact_dialed
    on_contact_dialed contact o h =
        let drawn = dial_drawn s k contact o.state in
        on_event _ k.to JoinTimer _ (on_dialed what.Join contact drawn.0 (on_state (with_words drawn.1) o) (on_drawn_dial contact o.state h))

    pub on_contact_asked : (contact : Option ℕ) (o : Effect) → R o.state → R (contact_asked s k contact o).state
    on_contact_asked None o h = h
    on_contact_asked (Some contact) o h = on_contact_dialed contact o h

    pub on_contact_reached : (entries : List Update) (o : Effect) → R o.state → R (contact_reached k entries o).state
    on_contact_reached entries o h = on_either (is_asked k.from o.state.life.contact) _ o (on_row _ (Some k.from) _ false _ (moves.answered o.state h)) h

    pub on_setting_set : (gossip : Option settings.Gossip) (o : Effect) → R o.state → R (setting_set s k gossip o).state
    on_setting_set None o h = h
    on_setting_set (Some gossip) o h =
        let drawn = below_of o.state.words gossip.push in
        on_either (nat_eq gossip.push 0) o _ h (on_timer _ SettingTimer (on_state (with_words drawn.1) o) (moves.drawn o.state drawn.1 (below_rest o.state.words gossip.push) h))

    pub on_reconnect_set : (serf : Option Serf) (o : Effect) → R o.state → R (reconnect_set s k serf o).state
    on_reconnect_set None o h = h
    on_reconnect_set (Some serf) o h = on_timer serf.reconnect ReconnectTimer o h

    pub on_own_beats : (o : Effect) → R o.state → R (own_beats_set s k o).state
    on_own_beats o h = on_timer s.swim.period PeriodTimer (on_state (λ t. record t { beat = k.at + s.swim.period }) o) (moves.beaten o.state (k.at + s.swim.period) h)

    -- one that begins alone, from its first timer on
    pub on_alone : (contact : Option ℕ) (o : Effect) → R (own_beats_set s k o).state → R (alone_begun s k contact o).state
    unfolding alone_begun
    on_alone contact o h = on_contact_asked contact _ (on_reconnect_set s.serf _ (on_setting_set s.gossip (own_beats_set s k o) h))

    pub on_pushes_set : (gossip : Option settings.Gossip) (o : Effect) → R o.state → R (pushes_set s k gossip o).state
    on_pushes_set None o h = h
    on_pushes_set (Some gossip) o h = on_either (nat_eq gossip.push 0) o _ h (on_timer _ PushTimer o h)

    pub on_founders : (serf : Option Serf) (o : Effect) → R o.state → R (founders_reconnect_set s k serf o).state
    on_founders None o h = h
    on_founders (Some serf) o h =
        let drawn = below_of o.state.words serf.reconnect in
        on_event _ k.to ReconnectTimer (on_state (with_words drawn.1) o) (moves.drawn o.state drawn.1 (below_rest o.state.words serf.reconnect) h)

    pub on_process_started : (o : Effect) → R (at_once s k o.state) → R (at_alone s k o.state) → R (process_started s k o).state
    unfolding process_started with_row
    on_process_started o once alone =
        let told = with_row k what.Start None 0 false o in
        on_either (nat_eq (start_of s k.to) 0) (founder_begun s k told) (latecomer_begun s k (contact_of s k.to) told)
        (on_founders s.serf (began s k told) (on_began told once))
        (on_alone (contact_of s k.to) (on_state (at_alone s k) told) (on_own_beats (on_state (at_alone s k) told) alone))

    pub on_restarted : (contact : Option ℕ) (o : Effect) → profile_of s ≡ Hashicorp → IfSome contact Named → R o.state → R (restarted s k contact o).state
    unfolding restarted with_timer with_event with_row
    on_restarted contact o rules named h = on_alone contact (with_row k what.Restart None 0 false (on_state (reborn s k.to contact) o)) (moves.again o.state contact rules named h)

    -- ---- pushes over connections

    pub on_push_opened : (period to : ℕ) (o : Effect) → R o.state → R (push_opened s k period to o).state
    unfolding push_opened
    on_push_opened period to o h =
        let drawn = dial_drawn s k to o.state in
        on_event _ k.to PushTimer _ (on_push_dialed to drawn.0 (on_state (with_words drawn.1) o) (on_drawn_dial to o.state h))

    pub on_push_opened_to : (period : ℕ) (chosen : List ℕ) (o : Effect) → R o.state → R (push_opened_to s k period chosen o).state
    on_push_opened_to period [] o h = on_timer period PushTimer o h
    on_push_opened_to period (to ∷ others) o h = on_push_opened period to o h

    pub on_dialed_push : (push : ℕ) (o : Effect) → R o.state → R (dialed_push s k push o).state
    unfolding dialed_push
    on_dialed_push push o h = on_push_opened_to _ _ _ (moves.drawn o.state _ (sample_rest o.state.words 1 _) h)

    pub on_dialed_push_due : (gossip : Option settings.Gossip) (o : Effect) → R o.state → R (dialed_push_due s k gossip o).state
    on_dialed_push_due None o h = h
    on_dialed_push_due (Some gossip) o h = on_either (nat_eq gossip.push 0) o _ h (on_dialed_push gossip.push o h)

    -- ---- tables that are merged

    pub state_either : (b : Bool) (t v : State) → R t → R v → R (cond b t v)
    state_either true t v a c = a
    state_either false t v a c = c

    pub on_leave_noted : (serf : Option Serf) (u : Update) (t : State) → R t → R (leave_noted serf k.to u t)
    on_leave_noted None u t h = h
    on_leave_noted (Some serf) u t h = state_either (is_left_and_not_up k.to u t) _ t (news.regarding t (regarded u.subject Marked t.life.regards) h) h

    entry_either : (a b : Bool) (u : Update) → Named u.subject
        → Named (cond a (record u { accuser = u.subject }) (cond b (record u { accuser = k.to }) (record u { claim = Suspect; accuser = k.to }))).subject
    entry_either true b u named = named
    entry_either false true u named = named
    entry_either false false u named = named

    pub entry_named : (u : Update) → Named u.subject → Named (entry_claim k.to u).subject
    entry_named u named = entry_either (is_left u.claim) (is_alive u.claim) u named

    pub on_entry_merged : (u : Update) (o : Effect) → Named u.subject → R o.state → R (entry_merged s k u o).state
    on_entry_merged u o named h = on_leave_noted s.serf u _ (on_applied Aloud (entry_claim k.to u) o (entry_named u named) h)

    pub on_table_merged : (us : List Update) (o : Effect) → AllNamed Named us → R o.state → R (table_merged s k us o).state
    unfolding table_merged
    on_table_merged [] o named h = h
    on_table_merged (u ∷ us) o named h = on_table_merged us (entry_merged s k u o) named.1 (on_entry_merged u o named.0 h)

    pub on_push_merged : (us : List Update) (o : Effect) → AllNamed Named us → R o.state → R (push_merged s k us o).state
    unfolding push_merged
    on_push_merged us o named h = on_table_merged us _ named (on_pull k.from o h)

    -- ---- leaves of processes

    pub on_lingered : (o : Effect) → R o.state → R (lingered s k o).state
    on_lingered o h = on_timer _ ExitTimer (on_state (with_leaving Lingers) o) (moves.leaving o.state Lingers h)

    pub on_left_said : (o : Effect) → R o.state → R (left_said s k o).state
    unfolding left_said
    on_left_said o h =
        let told = with_row k what.Left (Some k.to) o.state.incarnation false (on_state (with_leaving Says) o) in
        let there : R told.state = on_row what.Left (Some k.to) o.state.incarnation false (on_state (with_leaving Says) o) (moves.leaving o.state Says h) in
        on_either (is_anybody_up told.state) (with_put s k (own_left k.to told.state.incarnation) told) (lingered s k told) (on_put (own_left k.to told.state.incarnation) told moves.own there) (on_lingered told there)

    pub on_leave_told : (o : Effect) → R o.state → R (leave_told s k o).state
    on_leave_told o h =
        on_either (is_some s.serf && is_anybody_up o.state) _ (left_said s k o)
        (on_gossip_set s.gossip (on_state (λ t. with_intent (own_intent k.to) (with_leaving Intends t)) o) (news.intended (with_leaving Intends o.state) (own_intent k.to) moves.own (moves.leaving o.state Intends h)))
        (on_left_said o h)

    pub on_leave_begun : (o : Effect) → R o.state → R (leave_begun s k o).state
    unfolding leave_begun
    on_leave_begun o h = on_either (does_stay o.state.life.leaving) _ o (on_leave_told _ (on_row what.Leave None 0 false o h)) h

    pub on_intent_sent : (o : Effect) → R o.state → R (intent_sent s k o).state
    on_intent_sent o h = on_either (does_intend o.state.life.leaving && not (contains_key o.state.life.intents k.to)) _ o (on_left_said o h) h

    pub on_left_sent : (o : Effect) → R o.state → R (left_sent s k o).state
    on_left_sent o h = on_either (does_say o.state.life.leaving && not (is_claim_held s.queue k.to o.state)) _ o (on_lingered o h) h

    pub on_leave_gone_on : (o : Effect) → R o.state → R (leave_gone_on s k o).state
    unfolding leave_gone_on
    on_leave_gone_on o h = on_either (is_running o.state.phase) _ o (on_left_sent (intent_sent s k o) (on_intent_sent o h)) h

    pub on_exited : (o : Effect) → R o.state → R (exited k o).state
    unfolding exited
    on_exited o h = moves.downed _ (on_row what.Exit None 0 false o h)

    -- ---- those that failed

    pub on_failed_dialed : (serf : Serf) (to : ℕ) (o : Effect) → R o.state → R (failed_dialed s k serf to o).state
    unfolding failed_dialed
    on_failed_dialed serf to o h =
        let drawn = dial_drawn s k to o.state in
        on_event _ k.to ReconnectTimer _ (on_dialed what.Reconnect to drawn.0 (on_state (with_words drawn.1) o) (on_drawn_dial to o.state h))

    pub on_one_dialed : (serf : Serf) (failed : List ℕ) (o : Effect) → R o.state → R (one_dialed s k serf failed o).state
    on_one_dialed serf failed o h =
        let place = below_of o.state.words (length failed) in
        on_failed_dialed serf (slice_index failed place.0) (on_state (with_words place.1) o) (moves.drawn o.state place.1 (below_rest o.state.words (length failed)) h)

    pub on_any_tried : (serf : Serf) (failed : List ℕ) (o : Effect) → R o.state → R (any_tried s k serf failed o).state
    on_any_tried serf [] o h = on_event _ k.to ReconnectTimer o h
    on_any_tried serf (m ∷ failed) o h =
        let live = live_count o.state.table in
        let chance = below_of o.state.words live in
        let drawn = on_state (with_words chance.1) o in
        let there : R drawn.state = moves.drawn o.state chance.1 (below_rest o.state.words live) h in
        on_either (nat_lt chance.0 (length (m ∷ failed))) (one_dialed s k serf (m ∷ failed) drawn) (next_try_set s k serf k.at drawn)
        (on_one_dialed serf (m ∷ failed) drawn there) (on_event (k.at + serf.reconnect) k.to ReconnectTimer drawn there)

    pub on_reconnect_due : (serf : Option Serf) (o : Effect) → R o.state → R (reconnect_due s k serf o).state
    unfolding reconnect_due
    on_reconnect_due None o h = h
    on_reconnect_due (Some serf) o h =
        on_any_tried serf _ (on_state (failures_reaped k.at serf.reap) o) (news.regarding o.state (λ m. reaped k.at serf.reap (o.state.life.regards m)) h)

    -- ---- gossip of claims and intents

    pub on_next_round : (gossip : settings.Gossip) (o : Effect) → R o.state → R (next_round_set s k gossip o).state
    on_next_round gossip o h = on_event _ k.to GossipTimer (on_state (λ t. record t { gossips = true }) o) (news.gossiping o.state true h)

    pub on_round_set_again : (gossip : settings.Gossip) (o : Effect) → R o.state → R (round_set_again s k gossip o).state
    on_round_set_again gossip o h = on_either (is_all_told s o.state) o (next_round_set s k gossip o) h (on_next_round gossip o h)

    pub on_whole_round : (gossip : settings.Gossip) (o : Effect) → R o.state → R (whole_round s k gossip o).state
    on_whole_round gossip o h = on_either (is_all_told s o.state) o _ h (on_round_set_again gossip _ (on_spread gossip o h))

    pub on_whole_gossip : (gossip : Option settings.Gossip) (o : Effect) → R o.state → R (whole_gossip_due s k gossip o).state
    on_whole_gossip None o h = h
    on_whole_gossip (Some gossip) o h = on_whole_round gossip (on_state (λ t. record t { gossips = false }) o) (news.gossiping o.state false h)

    -- ---- by memberlist 0.5.0's and Serf's rules

    pub on_process : (content : EventKind) (o : Effect) → profile_of s ≡ Hashicorp → o.state.phase ≡ Running → Named k.from → NamesOnly Named (Unit {0}) content → R o.state
        → R (process_handled s k content o).state
    unfolding process_handled
    on_process (Restart contact) o rules is sender named h = on_restarted contact o rules named h
    on_process Leave o rules is sender named h = on_leave_begun o h
    on_process JoinTimer o rules is sender named h = on_contact_asked o.state.life.contact o h
    on_process SettingTimer o rules is sender named h = on_pushes_set s.gossip o h
    on_process (ConnectedTimer to) o rules is sender named h = on_push_sent to o h
    on_process PushTimer o rules is sender named h = on_dialed_push_due s.gossip o h
    on_process (Push entries) o rules is sender named h = on_push_merged entries o named h
    on_process (Pull entries) o rules is sender named h = on_table_merged entries _ named (on_contact_reached entries o h)
    on_process GossipTimer o rules is sender named h = on_whole_gossip s.gossip o h
    on_process ReconnectTimer o rules is sender named h = on_reconnect_due s.serf o h
    on_process ExitTimer o rules is sender named h = on_exited o h
    on_process Join o rules is sender named h = h
    on_process (Welcome entries) o rules is sender named h = h
    on_process Bye o rules is sender named h = h
    on_process content o rules is sender named h = on_single rules content o is sender named h

    pub on_restart_handled : (content : EventKind) (o : Effect) → profile_of s ≡ Hashicorp → NamesOnly Named (Unit {0}) content → R o.state → R (restart_handled s k content o).state
    on_restart_handled (Restart contact) o rules named h = on_restarted contact o rules named h
    on_restart_handled _ o rules named h = h

    -- of one that has started
    pub on_phases : (content : EventKind) (phase : Phase) (o : Effect) → profile_of s ≡ Hashicorp → o.state.phase ≡ phase → ¬ (phase ≡ Waiting) → Named k.from → NamesOnly Named (Unit {0}) content → R o.state
        → R (phase_handled phase s k content o).state
    on_phases content Waiting o rules is up sender named h = absurd (up refl)
    on_phases content Joining o rules is up sender named h = h
    on_phases content Running o rules is up sender named h = on_leave_gone_on _ (on_process content o rules is sender named h)
    on_phases content Down o rules is up sender named h = on_restart_handled content o rules named h

    pub on_lived : (content : EventKind) (phase : Phase) (o : Effect) → profile_of s ≡ Hashicorp → o.state.phase ≡ phase → ¬ (phase ≡ Waiting) → Named k.from → NamesOnly Named (Unit {0}) content → R o.state
        → R (process_lived phase s k content o).state
    unfolding process_lived
    on_lived content phase o rules is up sender named h = on_either (is_of_former_life k content o.state.life.birth) o _ h (on_phases content phase o rules is up sender named h)

    pub on_by : (content : EventKind) (phase : Phase) (profile : Profile) (o : Effect) → profile_of s ≡ profile → o.state.phase ≡ phase → ¬ (phase ≡ Waiting) → Named k.from → NamesOnly Named (Unit {0}) content
        → R o.state → R (handled_by phase profile s k content o).state
    on_by content phase Papers o rules is up sender named h = on_handled content phase o is sender named h
    on_by content phase Hashicorp o rules is up sender named h = on_lived content phase o rules is up sender named h
    on_by content Running Memberlist o rules is up sender named h = on_timed content o is sender named h
    on_by content Waiting Memberlist o rules is up sender named h = on_handled content Waiting o is sender named h
    on_by content Joining Memberlist o rules is up sender named h = on_handled content Joining o is sender named h
    on_by content Down Memberlist o rules is up sender named h = on_handled content Down o is sender named h

    -- A fact of any state, where another holds once the member has started, and that one is kept.
    module _ (Q : State → Type 0) (content : EventKind) (t : State) (to_Q : (v : State) → R v → Q v) (before : Q t) (up : ¬ (t.phase ≡ Waiting) → R t)
        (once : t.phase ≡ Waiting → R (at_once s k t)) (late : t.phase ≡ Waiting → R (at_late t)) (alone : t.phase ≡ Waiting → profile_of s ≡ Hashicorp → R (at_alone s k t)) (sender : Named k.from) where
      on_waiting : (c : EventKind) → t.phase ≡ Waiting → Q (handled s k c Waiting (unchanged t)).state
      unfolding handled plain_handled
      on_waiting Start is = to_Q _ (on_started (unchanged t) (once is) (late is))
      on_waiting _ is = before

      on_starting : (c : EventKind) → t.phase ≡ Waiting → profile_of s ≡ Hashicorp → Q (start_handled s k c (unchanged t)).state
      on_starting Start is rules = to_Q _ (on_process_started (unchanged t) (once is) (alone is rules))
      on_starting _ is rules = before

      q_either : (b : Bool) (o p : Effect) → Q o.state → Q p.state → Q (cond b o p).state
      q_either true o p a b = a
      q_either false o p a b = b

      on_waiting_by : (profile : Profile) → profile_of s ≡ profile → t.phase ≡ Waiting → Q (handled_by Waiting profile s k content (unchanged t)).state
      unfolding process_lived
      on_waiting_by Papers rules is = on_waiting content is
      on_waiting_by Memberlist rules is = on_waiting content is
      on_waiting_by Hashicorp rules is = q_either (is_of_former_life k content t.life.birth) (unchanged t) _ before (on_starting content is rules)

      on_phase : (phase : Phase) → t.phase ≡ phase → NamesOnly Named (Unit {0}) content → Q (handled_by phase (profile_of s) s k content (unchanged t)).state
      on_phase Waiting is named = on_waiting_by (profile_of s) refl is
      on_phase Joining is named = to_Q _ (on_by content Joining (profile_of s) (unchanged t) refl is (λ e. cc) sender named (up (λ waits. absurd (let e = waits in cc))))
      on_phase Running is named = to_Q _ (on_by content Running (profile_of s) (unchanged t) refl is (λ e. cc) sender named (up (λ waits. absurd (let e = waits in cc))))
      on_phase Down is named = to_Q _ (on_by content Down (profile_of s) (unchanged t) refl is (λ e. cc) sender named (up (λ waits. absurd (let e = waits in cc))))

      pub on_any_step : NamesOnly Named (Unit {0}) content → Q (step s k content t).state
      unfolding step
      on_any_step named = on_phase t.phase refl named

    pub on_step : (content : EventKind) (t : State) → Named k.from → NamesOnly Named (Unit {0}) content → R t → R (step s k content t).state
    on_step content t sender named h =
        on_any_step R content t (λ v r. r) h (λ up. h) (λ is. moves.began t is h) (λ is. moves.late t is h) (λ is rules. moves.alone t is rules h) sender named
