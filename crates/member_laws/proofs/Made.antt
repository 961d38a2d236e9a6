-- The events and rows of which each step makes its own: what each of them keeps of an effect, every step keeps.
use Rattle.std.specs.List.{AllByRecursion}
use Rattle.streams.proofs.PlaceLemmas.{shuffle_rest, below_rest}
use Rattle.std.proofs.Common.{subst, ◌≡◌, ℕ, zero, suc, ◌+◌, ◌==◌, Bool, true, false, cond, not, max, nat_eq, nat_lt, ◌-◌, ◌&&◌, List, [], ◌∷◌, map, length, Option, Some, None, option_map, refl, sym, ap, ◌∙◌, arith}
use Rattle.std.specs.Option.{is_none, option_map_or, IfSome}
use Rattle.std.specs.FinMap.{get}
use Rattle.std.specs.FinSet as set
use Rattle.std.proofs.lemmas.Bool.{eqb-false, false≢true}
use Rattle.base.specs.declared.key.Key.{Key}
use Rattle.scenario.specs.Setup.{Setup, member_count, start_of, contact_of}
use Rattle.trace.specs.declared.row.What.{What}
use Rattle.trace.specs.declared.row.What.TheVariants as what
use Rattle.streams.specs.Draw.{Words, below_of, IsRestOf}
use Rattle.links.specs.Arrival.{arrival_of}
use Rattle.links.specs.Trips.{call_of, answer_of, kept_arrival_of}
use Rattle.incarnation.specs.declared.Claim.{Claim}
use Rattle.incarnation.specs.declared.Claim.TheVariants.{Alive, Suspect, Confirm, Left, Intent}
use Rattle.incarnation.specs.declared.Update.{Update}
use Rattle.lifeguard.specs.declared.probe.Probe.{Probe}
use Rattle.lifeguard.specs.Health.{LocalHealth, lowered, raised, scaled}
use Rattle.lifeguard.specs.Probe.{failures_of, misses_of, after_probe, after_deadline, fresh_probe, timed_probe}
use Rattle.lifeguard.specs.NackDelay.{nack_delay_of}
use Rattle.probing.specs.ProbeOrder.{next_of, helpers_of}
use Rattle.suspicion.specs.Settings.{terms_of}
use Rattle.suspicion.specs.Suspicions.{HeldSuspicion, accused_of, answer_of as answer_to, due_of, is_due}
use Rattle.suspicion.specs.Times.{timeout}
use Rattle.member.specs.declared.member.Phase.{Phase}
use Rattle.member.specs.declared.member.Phase.TheVariants.{Waiting, Joining, Running, Down}
use Rattle.member.specs.declared.event_kind.EventKind.{EventKind}
use Rattle.member.specs.declared.event_kind.EventKind.TheVariants.{Start, Crash, Leave, Restart, JoinTimer, PeriodTimer, TimeoutTimer, NackTimer, SuspicionTimer, Join, Welcome, Ping, PingReq, Ack, Nack, Bye, DeadlineTimer, GossipTimer, PushTimer, Call, Answer, Gossip, Push, Pull, SettingTimer, ConnectedTimer, ReconnectTimer, ExitTimer}
use Rattle.member.specs.declared.announce.Announce.{Announce}
use Rattle.member.specs.declared.announce.Announce.TheVariants.{Aloud, Quietly}
use Rattle.member.specs.Announce.{is_aloud}
use Rattle.member.specs.State.{State}
use Rattle.base.specs.Beats.{next_in_step}
use Rattle.base.specs.declared.profile.Profile.{Profile}
use Rattle.base.specs.declared.profile.Profile.TheVariants.{Papers, Memberlist, Hashicorp}
use Rattle.scenario.specs.Profile.{profile_of}
use Rattle.scenario.specs.declared.settings.Gossip as settings
use Rattle.incarnation.specs.Refutations.{does_refute}
use Rattle.membership.specs.declared.candidates.Fitting.{Fitting}
use Rattle.membership.specs.declared.candidates.Fitting.TheVariants.{AliveBut, Reachable}
use Rattle.probing.specs.Samples.{sample_of}
use Rattle.membership.specs.Table.{is_confirm, is_intent, does_override, size_by, live_count, alive_but}
use Rattle.member.specs.Send.{whole_table, carried, sent_off, posted, sent, without_riding, news_sent, gossip_sent, call_sent, answer_sent, push_sent, pull_sent, sent_to_each, with_picks, buddy_of, ping_sent, ping_req_sent, ack_sent, pings_ack_sent, nack_sent, join_sent_to, join_sent, welcome_sent, bye_sent}
use Rattle.member.specs.Effects.{Effect, unchanged, on_state, with_row, with_number, with_event, with_timer}
use Rattle.member.specs.Apply.{gossip_set, with_put, with_health, with_told, passed_on, own_claim, refuted, heard_dead, is_own_death, is_refuted, own_applied, claim_kept_by, without_suspicion, alive_heard, suspect_heard, death_kept, confirm_heard, left_heard, claim_heard, news_heard, accusation_counted, accusation_heard, is_repeated, is_heeded, other_applied, claim_applied, intent_applied, applied, all_applied}
use Rattle.member.specs.Forgetting.{without_entry, kept_for, is_long_dead, forgotten_if, all_forgotten, round_ended}
use Rattle.member.specs.FirstRounds.{first_round}
use Rattle.member.specs.Step.{push_begun, even_push_begun, push_begun_by, first_push_set, push_period, suspected_at, timed_probe_failed, probe_settled, needs_timer, timed_probe_begun, timed_target_probed, next_timed_probed, waiting_probed, has_time, probed_in_turn, period_beaten, is_under_way, deadline_over, timed_answered, timed_ack_heard, candidates_for, sampled_help, helped, called, timed_out_timed, answer_heard, is_told_out, gossip_spread, gossip_round, gossip_due, merged_claim, merged, pushed, push_due, push_heard, timed_handled, handled_by, about_others, first_period_set, began, join_asked, joining_begun, started, crashed, join_handled, joined, suspected, probe_failed, probe_ended, probe_begun, target_probed, next_probed, period_begun, with_expected, help_asked, timed_out, nack_heard, answered, ping_heard, with_relay, ping_req_heard, ack_taken, ack_heard, nack_due, confirmed, suspicion_over, withdrawn, byes_said, departed, plain_handled, handled, step}
use Rattle.suspicion.specs.Suspicions.{is_over_of}
use Rattle.suspicion.specs.declared.suspicions.Accused.{Accused}
use Rattle.membership.specs.Table.{is_suspect}
use Rattle.member.specs.LateAccusations.{death_of, accused_confirmed, accusation_answered, prompt_accusation_heard, accusation_by}
use Rattle.member.specs.LoneBuddy.{lone_buddy_of, plain_ping_sent, ping_with_lone, probe_ping_sent}
use Rattle.member.specs.SingleBeat.{single_probe_begun, blocked_probe_begun, single_target_probed, turn_probed, next_single_probed, next_if_waiting, single_beat_taken, single_beaten, single_deadline_over, single_answered}
use Rattle.member.specs.LateAcks.{ping_answered, help_given, help_asked_for, ack_passed_on, single_ack_taken, single_ack_heard, help_over}
use Rattle.member.specs.Step.{single_handled, process_handled, phase_handled, process_lived}
use Rattle.std.specs.Prelude.{min, slice_index}
use Rattle.std.specs.Option.{is_some}
use Rattle.std.specs.FinMap.{contains_key}
use Rattle.scenario.specs.declared.settings.Serf.{Serf}
use Rattle.scenario.specs.declared.settings.Queue.{Queue}
use Rattle.lives.specs.Lives.{does_stay, does_intend, does_say}
use Rattle.lives.specs.Regards.{Regards, failed_among, reaped}
use Rattle.lives.specs.declared.leaving.Leaving.TheVariants.{Says}
use Rattle.member.specs.Blocks.{departs_at, on_its_way}
use Rattle.member.specs.Wholes.{whole_by}
use Rattle.member.specs.Riding.{riding_by, without_riding_by, without_claims, without_both, room_of, put_up, is_claim_held, is_all_told}
use Rattle.member.specs.Intents.{is_known_intent, regards_kept}
use Rattle.member.specs.Connections.{with_words, dial_drawn, dial_done, dialed, push_dialed}
use Rattle.member.specs.Beginnings.{contact_dialed, contact_asked, is_asked, contact_reached, setting_set, reconnect_set, own_beats_set, alone_begun, pushes_set, founders_reconnect_set, founder_begun, latecomer_begun, process_started, reborn, restarted}
use Rattle.member.specs.DialedPushes.{push_opened, push_opened_to, dialed_push, dialed_push_due}
use Rattle.member.specs.Merges.{leave_noted, is_left_and_not_up, entry_claim, entry_merged, table_merged, push_merged}
use Rattle.member.specs.Leaves.{is_anybody_up, with_leaving, own_left, linger_of, lingered, left_said, leave_told, leave_begun, intent_sent, left_sent, is_running, leave_gone_on, exited}
use Rattle.member.specs.Reconnects.{failures_reaped, next_try_set, failed_dialed, one_dialed, any_tried, reconnect_due}
use Rattle.member.specs.WholeGossip.{next_round_set, round_set_again, whole_gossip_due}
use Rattle.member.specs.Processes.{is_of_former_life, start_handled, restart_handled}
use Rattle.member_laws.specs.Words.{keeps_relays}
use Rattle.member_laws.proofs.LateDeaths.{repeated_suspect, death_after, lone_about}
use Rattle.member_laws.proofs.Moves.{IsNews, NewsMoves, Moves, at_once, at_late, at_alone, kept_either, death_either, regards_either, put_either, refuted_does}
use Rattle.member_laws.proofs.Rests.{sample_rest}
use Rattle.member_laws.proofs.Walk.{always_relays, on_told, on_passed, on_first_round, on_forgotten, on_round_ended, on_help_given, on_single_ack_taken, on_pings_ack, on_riding, on_contact_reached, on_setting_set, on_reconnect_set, on_own_beats, on_began, on_entry_merged, entry_named, claimed, claimed_suspect, AllNamed, on_row, on_health, on_applied, on_all, on_ended, on_next, on_ping, on_ping_req, on_bye, on_gossip, on_push_sent, on_pull, on_event, on_timer, on_weighed, on_settled, on_helped, merged_named, no_target, NamesOnly, one_target}

-- ---- the parts

-- a row of neither of Lifeguard's mechanisms, which records a leave or a bye only where some members leave
abbrev pub IsPlain : Type 0 → What → Type 0
IsPlain SomeLeave what.Accuse = ⊥
IsPlain SomeLeave what.Nack = ⊥
IsPlain SomeLeave what.Health = ⊥
IsPlain SomeLeave what.Leave = SomeLeave
IsPlain SomeLeave what.Bye = SomeLeave
IsPlain SomeLeave _ = Unit {0}

-- a helper that keeps in mind whom it helps sends nacks: where it does so in any case, LHA-Probe says whether
abbrev pub SendsNacks : Setup → Type 0
SendsNacks s = keeps_relays (profile_of s) ≡ true → s.lifeguard.probe ≡ true

-- which a nack timer asks for, at a member that runs
abbrev pub MaySendWhileRunning : Setup → EventKind → Type 0
MaySendWhileRunning s (NackTimer initiator seq) = SendsNacks s
MaySendWhileRunning s _ = Unit {0}

abbrev pub NackMaySend : Setup → Phase → EventKind → Type 0
NackMaySend s Waiting content = Unit {0}
NackMaySend s Joining content = Unit {0}
NackMaySend s Running content = MaySendWhileRunning s content
NackMaySend s Down content = Unit {0}

-- which rows may be written, in states of which a fact holds
pub record MayTell (s : Setup) (R : State → Type 0) (SomeLeave : Type 0) (Tells : What → Type 0) : Type 0 where
  pub plain : (tells : What) → IsPlain SomeLeave tells → Tells tells
  pub nacks : (t : State) (relay : ℕ × ℕ) → R t → set.contains t.relays relay ≡ true → SendsNacks s → Tells what.Nack
  pub accuses : (t : State) (u : Update) (x : HeldSuspicion) → R t → accused_of t.suspicions u.subject u.accuser t.next_number ≡ Some x → Tells what.Accuse
  pub healths : (t : State) (h : LocalHealth) → R t → R (record t { health = h }) → nat_eq h.counter t.health.counter ≡ false → Tells what.Health

-- the updates that messages take along are about those who are named, in such states
pub record Carries (s : Setup) (k : Key) (Named : ℕ → Type 0) (R : State → Type 0) : Type 0 where
  pub plain : (t : State) (bearer : _) → R t → AllNamed Named (riding_by (profile_of s) s k.to bearer t)
  pub ping : (t : State) (to : ℕ) → R t → AllNamed Named (carried s (buddy_of s to t) t)
  pub contact : (c : ℕ) → contact_of s k.to ≡ Some c → Named c
  pub helpers : (t : State) (but count : ℕ) → R t → AllByRecursion Named (helpers_of t.words count (alive_but but t.table)).0
  pub sample : (t : State) (fitting : Fitting) (count : ℕ) → R t → AllByRecursion Named (sample_of t.words count (candidates_for k fitting t)).0
  pub whole : (t : State) → R t → AllNamed Named (whole_table k.to t.incarnation t.table)
  pub known : (t : State) → R t → AllNamed Named (whole_by (profile_of s) k.to t)
  pub failed : (t : State) (m place : ℕ) (failed : List ℕ) → R t → failed_among (member_count s) t.life.regards ≡ m ∷ failed → Named (slice_index (m ∷ failed) place)

-- when the events come that are made in such states
pub record Times (s : Setup) (k : Key) (Timed : ℕ → Type 0) (R : State → Type 0) : Type 0 where
  pub arrival : (t : State) (to at : ℕ) → R t → (on_its_way (profile_of s) s k to (arrival_of s k.to to) t.words).0 ≡ Some at → Timed at
  pub call : (t : State) (to at : ℕ) → R t → (on_its_way (profile_of s) s k to (call_of s k.to to) t.words).0 ≡ Some at → Timed at
  pub answer : (t : State) (to at : ℕ) → R t → (on_its_way (profile_of s) s k to (answer_of s k.to to) t.words).0 ≡ Some at → Timed at
  pub stream : (t : State) (to at : ℕ) → R t → (on_its_way (profile_of s) s k to (kept_arrival_of s k.to to) t.words).0 ≡ Some at → Timed at
  pub join_timer : Timed (k.at + s.swim.period)
  pub first_period : (t : State) → R t → Timed (k.at + (1 + (below_of t.words s.swim.spread).0))
  pub period_timer : (t : State) → R t → Timed (k.at + scaled t.health s.swim.period)
  pub timeout_timer : (t : State) → R t → Timed (k.at + scaled t.health s.swim.timeout)
  pub plain_timeout : Timed (k.at + s.swim.timeout)
  pub beat : (beat : ℕ) → Timed (next_in_step beat s.swim.period k.at)
  pub gossip_timer : (gossip : settings.Gossip) → s.gossip ≡ Some gossip → (beat : ℕ) → Timed (next_in_step beat gossip.interval k.at)
  pub first_push : (gossip : settings.Gossip) → s.gossip ≡ Some gossip → nat_eq gossip.push 0 ≡ false → (t v : State) → R t → R v → Timed (k.at + (1 + (below_of t.words s.swim.spread).0) + (below_of v.words gossip.push).0 + push_period gossip.push (size_by (profile_of s) v.table))
  pub even_push : (gossip : settings.Gossip) → s.gossip ≡ Some gossip → nat_eq gossip.push 0 ≡ false → (t v : State) → R t → R v → Timed (k.at + (1 + (below_of t.words s.swim.spread).0) + 1 + (below_of v.words (push_period gossip.push (size_by (profile_of s) v.table))).0)
  pub push_timer : (gossip : settings.Gossip) → s.gossip ≡ Some gossip → (t : State) → R t → Timed (k.at + push_period gossip.push (size_by (profile_of s) t.table))
  pub nack_timer : Timed (k.at + nack_delay_of s.lifeguard.nack_percent s.swim.timeout)
  pub suspicion_timer : (t : State) → R t → Timed (k.at + timeout (terms_of s) (size_by (profile_of s) t.table) 0)
  pub accusation_timer : (t : State) (u : Update) (x : HeldSuspicion) → R t → accused_of t.suspicions u.subject u.accuser t.next_number ≡ Some x → Timed (due_of x k.at)
  -- by memberlist 0.5.0's rules
  pub dial : (t : State) (to at : ℕ) → R t → (dial_drawn s k to t).0 ≡ Some at → Timed at
  pub retry : (t : State) (to : ℕ) → R t → Timed (dial_done s k (dial_drawn s k to t).0 + s.dial.retry)
  pub next_push : (gossip : settings.Gossip) → s.gossip ≡ Some gossip → (t v : State) (to : ℕ) → R t → R v → Timed (dial_done s k (dial_drawn s k to t).0 + push_period gossip.push (size_by (profile_of s) v.table))
  pub next_try : (serf : Serf) → s.serf ≡ Some serf → (t : State) (to : ℕ) → R t → Timed (dial_done s k (dial_drawn s k to t).0 + serf.reconnect)
  pub try_timer : (serf : Serf) → s.serf ≡ Some serf → Timed (k.at + serf.reconnect)
  pub founders_try : (serf : Serf) → s.serf ≡ Some serf → (t v : State) → R t → R v → Timed (k.at + (1 + (below_of t.words s.swim.spread).0) + (below_of v.words serf.reconnect).0)
  pub setting_timer : (gossip : settings.Gossip) → s.gossip ≡ Some gossip → nat_eq gossip.push 0 ≡ false → (t : State) → R t → Timed (k.at + (1 + (below_of t.words gossip.push).0))
  pub exit_timer : Timed (k.at + linger_of s.serf)
  pub next_round : (gossip : settings.Gossip) → s.gossip ≡ Some gossip → (beat : ℕ) → Timed (next_in_step beat gossip.interval (departs_at s k))
  pub blocked_deadline : (t : State) → R t → Timed (max (k.at + scaled t.health s.swim.period) (departs_at s k))
  pub blocked_timeout : (t : State) → R t → Timed (min (departs_at s k + s.swim.timeout) (max (k.at + scaled t.health s.swim.period) (departs_at s k)))

-- no moment is left out
abbrev pub AnyTime : ℕ → Type 0
AnyTime at = Unit {0}

pub any_time : (s : Setup) (k : Key) (R : State → Type 0) → Times s k AnyTime R
any_time s k R = record {
  arrival = λ t to at r is. tt;
  call = λ t to at r is. tt;
  answer = λ t to at r is. tt;
  stream = λ t to at r is. tt;
  join_timer = tt;
  first_period = λ t r. tt;
  period_timer = λ t r. tt;
  timeout_timer = λ t r. tt;
  plain_timeout = tt;
  beat = λ beat. tt;
  gossip_timer = λ gossip is beat. tt;
  first_push = λ gossip is some t v r r'. tt;
  even_push = λ gossip is some t v r r'. tt;
  push_timer = λ gossip is t r. tt;
  nack_timer = tt;
  suspicion_timer = λ t r. tt;
  accusation_timer = λ t u x r is. tt;
  dial = λ t to at r is. tt;
  retry = λ t to r. tt;
  next_push = λ gossip is t v to r r'. tt;
  next_try = λ serf is t to r. tt;
  try_timer = λ serf is. tt;
  founders_try = λ serf is t v r r'. tt;
  setting_timer = λ gossip is some t r. tt;
  exit_timer = tt;
  next_round = λ gossip is beat. tt;
  blocked_deadline = λ t r. tt;
  blocked_timeout = λ t r. tt;
}

-- what each part keeps
pub record Makes (s : Setup) (k : Key) (Named : ℕ → Type 0) (SomeLeave : Type 0) (Tells : What → Type 0) (Timed : ℕ → Type 0) (P : Effect → Type 0) : Type 0 where
  pub row : (tells : What) (about : Option ℕ) (value : ℕ) (lost : Bool) (o : Effect) → Tells tells → IfSome about Named → P o → P (with_row k tells about value lost o)
  pub event : (at to : ℕ) (content : EventKind) (o : Effect) → Timed at → Named to → NamesOnly Named SomeLeave content → P o → P (with_event s k at to content o)
  pub lost : (o : Effect) → P o → P (on_state with_number o)
  pub state : (t : State) (o : Effect) → t.next_number ≡ o.state.next_number → P o → P (record o { state = t })

helpers_rest : (words : Words) (count : ℕ) (candidates : List ℕ) → IsRestOf words (helpers_of words count candidates).1
unfolding helpers_of
helpers_rest words count candidates = shuffle_rest words candidates

runs : ¬ (Running ≡ Waiting)
runs is = absurd (let e = is in cc)

joins : ¬ (Joining ≡ Waiting)
joins is = absurd (let e = is in cc)

kept_number : (profile : Profile) (u : Update) (t : State) → (claim_kept_by profile u t).next_number ≡ t.next_number
kept_number profile u t = kept_either (λ v. v.next_number ≡ t.next_number) profile u t refl refl refl refl

round_number : (profile : Profile) (t : State) → (first_round profile t).next_number ≡ t.next_number
round_number Papers t = refl
round_number Memberlist t = refl
round_number Hashicorp t = refl

death_number : (profile : Profile) (subject now : ℕ) (t : State) → (death_kept profile subject now t).next_number ≡ t.next_number
death_number profile subject now t = death_either (λ v. v.next_number ≡ t.next_number) profile subject now t refl refl

-- what keeps the next number
claimed_number : (serf : Option Serf) (profile : Profile) (now : ℕ) (u : Update) (t : State) → (regards_kept serf now u (claim_kept_by profile u t)).next_number ≡ t.next_number
claimed_number serf profile now u t = regards_either (λ v. v.next_number ≡ t.next_number) serf now u (claim_kept_by profile u t) (kept_number profile u t) (λ regard. kept_number profile u t)

put_number : (s : Setup) (u : Update) (t : State) → (put_up s s.queue u t).next_number ≡ t.next_number
put_number s u t = put_either (λ v. v.next_number ≡ t.next_number) s s.queue u t (λ buffer. refl) (λ queue. refl)

claims_number : (s : Setup) (queue : Option Queue) (room : ℕ) (t : State) → (without_claims s queue room t).next_number ≡ t.next_number
claims_number s None room t = refl
claims_number s (Some q) room t = refl

riding_number : (profile : Profile) (s : Setup) (me : ℕ) (bearer : _) (t : State) → (without_riding_by profile s me bearer t).next_number ≡ t.next_number
unfolding without_both
riding_number Papers s me bearer t = refl
riding_number Memberlist s me bearer t = refl
riding_number Hashicorp s me bearer t = claims_number s s.queue (room_of s me bearer s.queue) t

number_either : (b : Bool) (t v : State) (n : ℕ) → t.next_number ≡ n → v.next_number ≡ n → (cond b t v).next_number ≡ n
number_either true t v n a c = a
number_either false t v n a c = c

noted_number : (serf : Option Serf) (me : ℕ) (u : Update) (t : State) → (leave_noted serf me u t).next_number ≡ t.next_number
noted_number None me u t = refl
noted_number (Some serf) me u t = number_either (is_left_and_not_up me u t) _ t t.next_number refl refl

-- the beat of a founder's periods
first_beat : (s : Setup) (k : Key) (gossip : Option settings.Gossip) (beat : ℕ) (o : Effect) → (first_push_set s k beat gossip o).state.beat ≡ o.state.beat
unfolding push_begun even_push_begun with_event
first_beat s k None beat o = refl
first_beat s k (Some gossip) beat o = by_test (nat_eq gossip.push 0) (profile_of s)
  where
    by_test : (b : Bool) (profile : Profile) → (cond b o (push_begun_by profile s k beat gossip.push o)).state.beat ≡ o.state.beat
    by_test true profile = refl
    by_test false Papers = refl
    by_test false Memberlist = refl
    by_test false Hashicorp = refl

began_beat : (s : Setup) (k : Key) (o : Effect) → (began s k o).state.beat ≡ k.at + (1 + (below_of (first_round (profile_of s) (at_once s k o.state)).words s.swim.spread).0)
unfolding began first_period_set with_timer with_event
began_beat s k o =
    let drawn = below_of (first_round (profile_of s) (at_once s k o.state)).words s.swim.spread in
    let beat = k.at + (1 + drawn.0) in
    first_beat s k s.gossip beat (with_timer s k (1 + drawn.0) PeriodTimer (record { state = record (first_round (profile_of s) (at_once s k o.state)) { words = drawn.1; beat = beat }; events = o.events; rows = o.rows }))

module _ (s : Setup) (k : Key) (Named : ℕ → Type 0) (R : State → Type 0) (news : NewsMoves s k Named R) (moves : Moves s k Named R)
    (SomeLeave : Type 0) (Tells : What → Type 0) (may : MayTell s R SomeLeave Tells) (carries : Carries s k Named R)
    (Timed : ℕ → Type 0) (times : Times s k Timed R) (P : Effect → Type 0) (makes : Makes s k Named SomeLeave Tells Timed P) where
  by_either : (b : Bool) (o p : Effect) → (b ≡ true → P o) → (b ≡ false → P p) → P (cond b o p)
  by_either true o p a b = a refl
  by_either false o p a b = b refl

  by_timer : (ticks : ℕ) (content : EventKind) (o : Effect) → Timed (k.at + ticks) → NamesOnly Named SomeLeave content → P o → P (with_timer s k ticks content o)
  unfolding with_timer
  by_timer ticks content o timed named h = makes.event (k.at + ticks) k.to content o timed moves.own named h

  -- ---- messages

  by_sent_off : (to : ℕ) (content : EventKind) (arrival : Option ℕ) (o : Effect) → ((at : ℕ) → arrival ≡ Some at → Timed at) → Named to → NamesOnly Named SomeLeave content → P o → P (sent_off s k to content arrival o)
  by_sent_off to content None o timed there named h = makes.lost o h
  by_sent_off to content (Some at) o timed there named h = makes.event at to content o (timed at refl) there named h

  by_posted : (tells : What) (to value : ℕ) (content : EventKind) (arrival : Option ℕ × Words) (o : Effect) → ((at : ℕ) → arrival.0 ≡ Some at → Timed at) → Tells tells → Named to
      → NamesOnly Named SomeLeave content → P o → P (posted s k tells to value content arrival o)
  unfolding posted
  by_posted tells to value content arrival o timed told there named h =
      by_sent_off to content arrival.0 _ timed there named
      (makes.row tells (Some to) value (is_none arrival.0) (on_state (λ t. record t { words = arrival.1 }) o) told there (makes.state _ o refl h))

  by_sent : (tells : What) (to value : ℕ) (content : EventKind) (o : Effect) → Tells tells → Named to → NamesOnly Named SomeLeave content → R o.state → P o → P (sent s k tells to value content o)
  by_sent tells to value content o told there named r h = by_posted tells to value content _ o (λ at is. times.arrival o.state to at r is) told there named h

  by_ping : (to initiator seq : ℕ) (o : Effect) → Named to → Named initiator → R o.state → P o → P (ping_sent s k to initiator seq o)
  unfolding ping_sent
  by_ping to initiator seq o there named r h =
      by_sent _ to seq _ (on_state (with_picks s (buddy_of s to o.state)) o) (may.plain _ tt) there (named, carries.ping o.state to r) (moves.picked o.state (buddy_of s to o.state) r) (makes.state _ o refl h)

  by_riding : (bearer : _) (o : Effect) → P o → P (without_riding s k bearer o)
  by_riding bearer o h = makes.state (without_riding_by (profile_of s) s k.to bearer o.state) o (riding_number (profile_of s) s k.to bearer o.state) h

  by_ping_req : (target seq to : ℕ) (o : Effect) → Named target → Named to → R o.state → P o → P (ping_req_sent s k target seq to o)
  unfolding ping_req_sent
  by_ping_req target seq to o named there r h = by_sent _ to seq _ _ (may.plain _ tt) there (named, carries.plain o.state _ r) (on_riding s k Named R news moves _ o r) (by_riding _ o h)

  by_ack : (to initiator seq : ℕ) (o : Effect) → Named to → Named initiator → R o.state → P o → P (ack_sent s k to initiator seq o)
  unfolding ack_sent
  by_ack to initiator seq o there named r h = by_sent _ to seq _ _ (may.plain _ tt) there (named, carries.plain o.state _ r) (on_riding s k Named R news moves _ o r) (by_riding _ o h)

  by_pings_ack : (to initiator seq : ℕ) (o : Effect) → Named to → Named initiator → R o.state → P o → P (pings_ack_sent s k to initiator seq o)
  unfolding pings_ack_sent
  by_pings_ack to initiator seq o there named r h = by_sent _ to seq _ _ (may.plain _ tt) there (named, carries.plain o.state _ r) (on_riding s k Named R news moves _ o r) (by_riding _ o h)

  by_nack : (to seq : ℕ) (o : Effect) → Named to → Tells what.Nack → R o.state → P o → P (nack_sent s k to seq o)
  unfolding nack_sent
  by_nack to seq o there told r h = by_sent _ to seq (Nack seq) o told there tt r h

  by_join_to : (contact : Option ℕ) (o : Effect) → ((c : ℕ) → contact ≡ Some c → Named c) → R o.state → P o → P (join_sent_to s k contact o)
  by_join_to None o named r h = h
  by_join_to (Some contact) o named r h = by_sent _ contact 0 Join o (may.plain _ tt) (named contact refl) tt r h

  by_join : (o : Effect) → R o.state → P o → P (join_sent s k o)
  unfolding join_sent
  by_join o r h = by_join_to (contact_of s k.to) o carries.contact r h

  by_welcome : (to : ℕ) (o : Effect) → Named to → R o.state → P o → P (welcome_sent s k to o)
  unfolding welcome_sent
  by_welcome to o there r h = by_sent _ to 0 _ o (may.plain _ tt) there (carries.whole o.state r) r h

  by_bye : SomeLeave → (to : ℕ) (o : Effect) → Named to → R o.state → P o → P (bye_sent s k to o)
  unfolding bye_sent
  by_bye some to o there r h = by_sent what.Bye to 0 Bye o (may.plain what.Bye some) there some r h

  by_news_sent : (to : ℕ) (updates : List Update) (o : Effect) → Named to → AllNamed Named updates → R o.state → P o → P (news_sent s k to updates o)
  by_news_sent to updates o there named r h =
      by_either (nat_eq (length updates) 0) o (sent s k what.Gossip to 0 (Gossip updates) o) (λ _. h) (λ _. by_sent what.Gossip to 0 (Gossip updates) o (may.plain what.Gossip tt) there named r h)

  by_gossip : (to : ℕ) (o : Effect) → Named to → R o.state → P o → P (gossip_sent s k to o)
  unfolding gossip_sent
  by_gossip to o there r h = by_news_sent to _ _ there (carries.plain o.state _ r) (on_riding s k Named R news moves _ o r) (by_riding _ o h)

  by_call : (to seq : ℕ) (o : Effect) → Named to → R o.state → P o → P (call_sent s k to seq o)
  unfolding call_sent
  by_call to seq o there r h = by_posted _ to seq (Call seq) _ o (λ at is. times.call o.state to at r is) (may.plain _ tt) there tt h

  by_answer : (to seq : ℕ) (o : Effect) → Named to → R o.state → P o → P (answer_sent s k to seq o)
  unfolding answer_sent
  by_answer to seq o there r h = by_posted _ to seq (Answer seq) _ o (λ at is. times.answer o.state to at r is) (may.plain _ tt) there tt h

  by_push_sent : (to : ℕ) (o : Effect) → Named to → R o.state → P o → P (push_sent s k to o)
  unfolding push_sent
  by_push_sent to o there r h = by_posted _ to 0 _ _ o (λ at is. times.stream o.state to at r is) (may.plain _ tt) there (carries.known o.state r) h

  by_pull : (to : ℕ) (o : Effect) → Named to → R o.state → P o → P (pull_sent s k to o)
  unfolding pull_sent
  by_pull to o there r h = by_posted _ to 0 _ _ o (λ at is. times.stream o.state to at r is) (may.plain _ tt) there (carries.known o.state r) h

  -- messages one after another, to members that are named
  by_each : (send : ℕ → Effect → Effect) → ((to : ℕ) (o : Effect) → R o.state → R (send to o).state) → ((to : ℕ) (o : Effect) → Named to → R o.state → P o → P (send to o))
      → (others : List ℕ) (o : Effect) → AllByRecursion Named others → R o.state → P o → P (sent_to_each send others o)
  unfolding sent_to_each
  by_each send keeps each [] o there r h = h
  by_each send keeps each (to ∷ others) o there r h = by_each send keeps each others (send to o) there.1 (keeps to o r) (each to o there.0 r h)

  -- ---- updates

  by_health : (h : LocalHealth) (o : Effect) → R o.state → R (record o.state { health = h }) → P o → P (with_health k h o)
  unfolding with_health
  by_health h o r r' p =
      let after = makes.state _ o refl p in
      by_either (nat_eq h.counter o.state.health.counter) (on_state (λ t. record t { health = h }) o) _ (λ _. after)
      (λ differs. makes.row _ None h.counter false (on_state (λ t. record t { health = h }) o) (may.healths o.state h r r' differs) tt after)

  by_told : (telling : Announce) (tells : What) (subject value : ℕ) (o : Effect) → Tells tells → Named subject → P o → P (with_told telling k tells subject value o)
  by_told Aloud tells subject value o told named h = makes.row tells (Some subject) value false o told named h
  by_told Quietly tells subject value o told named h = h

  by_gossip_set : (gossip : Option settings.Gossip) (o : Effect) → s.gossip ≡ gossip → P o → P (gossip_set s k gossip o)
  by_gossip_set None o is h = h
  by_gossip_set (Some gossip) o is h =
      by_either o.state.gossips o _ (λ _. h)
      (λ _. makes.event _ k.to GossipTimer (on_state (λ t. record t { gossips = true }) o) (times.gossip_timer gossip is (o.state.beat - 1)) moves.own tt (makes.state _ o refl h))

  by_put : (u : Update) (o : Effect) → P o → P (with_put s k u o)
  unfolding with_put
  by_put u o h = by_gossip_set s.gossip _ refl (makes.state (put_up s s.queue u o.state) o (put_number s u o.state) h)

  by_passed : (telling : Announce) (u : Update) (o : Effect) → P o → P (passed_on s k telling u o)
  unfolding passed_on
  by_passed telling u o h = by_either (is_aloud telling) (with_put s k u o) o (λ _. by_put u o h) (λ _. h)

  by_refuted : (claim : Claim) (number : ℕ) (o : Effect) → does_refute (profile_of s) o.state.incarnation claim number ≡ true → R o.state → P o → P (refuted s k (number + 1) o)
  unfolding refuted
  by_refuted claim number o refutes r h =
      let more = on_state (λ t. record t { incarnation = number + 1 }) o in
      let told = with_row k what.Refute (Some k.to) (number + 1) false more in
      let there : R told.state = on_row s k Named R news what.Refute (Some k.to) (number + 1) false more (moves.refuted o.state claim number refutes r) in
      by_put (own_claim k.to (number + 1)) _
      (by_health (raised told.state.health 1) told there (moves.weakened told.state 1 there)
      (makes.row what.Refute (Some k.to) (number + 1) false more (may.plain what.Refute tt) moves.own (makes.state _ o refl h)))

  by_own : (claim : Claim) (number : ℕ) (o : Effect) → R o.state → P o → P (own_applied s k claim number o)
  unfolding heard_dead
  by_own claim number o r h =
      by_either (is_refuted (profile_of s) o.state claim number) (refuted s k (number + 1) o) _ (λ refutes. by_refuted claim number o (refuted_does (profile_of s) o.state claim number refutes) r h)
      (λ _. by_either (is_own_death (profile_of s) claim o.state.heard_dead) (heard_dead k number o) o
      (λ _. makes.row _ (Some k.to) number false _ (may.plain _ tt) moves.own (makes.state _ o refl h)) (λ _. h))

  by_gone : (u : Update) (o : Effect) → P o → P (on_state (λ t. death_kept (profile_of s) u.subject k.at (without_suspicion u.subject t)) (on_state (claimed s k Named R news u) o))
  by_gone u o h =
      makes.state _ o (death_number (profile_of s) u.subject k.at (without_suspicion u.subject (claimed s k Named R news u o.state)) ∙ claimed_number s.serf (profile_of s) k.at u o.state) h

  by_claim : (telling : Announce) (u : Update) (claim : Claim) (o : Effect) → Named u.subject → IsNews (profile_of s) k.to o.state u → u.claim ≡ claim → R o.state → P o
      → P (claim_heard s telling k u claim (on_state (claimed s k Named R news u) o))
  unfolding alive_heard suspect_heard confirm_heard left_heard
  by_claim telling u Alive o named says e r h = by_told telling _ u.subject u.inc _ (may.plain _ tt) named (makes.state _ o (claimed_number s.serf (profile_of s) k.at u o.state) h)
  by_claim telling u Suspect o named says e r h =
      let there = claimed_suspect s k Named R news u o.state named says e r in
      makes.event _ k.to (SuspicionTimer u.subject) _ (times.suspicion_timer _ there) moves.own tt
      (by_told telling _ u.subject u.inc _ (may.plain _ tt) named (makes.state _ o (claimed_number s.serf (profile_of s) k.at u o.state) h))
  by_claim telling u Confirm o named says e r h = by_told telling _ u.subject u.inc _ (may.plain _ tt) named (by_gone u o h)
  by_claim telling u Left o named says e r h = by_told telling _ u.subject u.inc _ (may.plain _ tt) named (by_gone u o h)
  by_claim telling u Intent o named says e r h = absurd (false≢true (sym says.spoken ∙ ap is_intent e))

  by_news : (telling : Announce) (u : Update) (o : Effect) → Named u.subject → IsNews (profile_of s) k.to o.state u → R o.state → P o → P (news_heard s telling k u o)
  unfolding news_heard
  by_news telling u o named says r h = by_passed telling u _ (by_claim telling u u.claim o named says refl r h)

  by_counted : (telling : Announce) (u : Update) (accused : Option HeldSuspicion) (o : Effect) → ((x : HeldSuspicion) → accused ≡ Some x → Tells what.Accuse) → ((x : HeldSuspicion) → accused ≡ Some x → Timed (due_of x k.at)) → Named u.subject → P o
      → P (accusation_counted s telling k u (option_map (answer_to k.at) accused) o)
  by_counted telling u None o told timed named h = h
  by_counted telling u (Some x) o told timed named h = by_passed telling u _ (makes.event _ k.to (SuspicionTimer u.subject) _ (timed x refl) moves.own tt (by_told telling _ u.subject _ o (told x refl) named h))

  by_accusation : (telling : Announce) (u : Update) (o : Effect) → Named u.subject → R o.state → P o → P (accusation_heard s telling k u o)
  unfolding accusation_heard
  by_accusation telling u o named r h =
      by_counted telling u (accused_of o.state.suspicions u.subject u.accuser o.state.next_number) _
      (λ x is. may.accuses o.state u x r is) (λ x is. times.accusation_timer o.state u x r is) named (makes.state _ o refl h)

  by_accused_confirmed : (telling : Announce) (u : Update) (held : Claim × ℕ) (accused : Accused) (o : Effect) → Tells what.Accuse → Named u.subject → ¬ (u.subject ≡ k.to)
      → get o.state.table u.subject ≡ Some held → is_suspect held.0 ≡ true → R o.state → P o → P (accused_confirmed s telling k u held.1 accused o)
  by_accused_confirmed telling u held accused o told named other here suspected r h =
      let row = with_told telling k what.Accuse u.subject accused.count o in
      by_news telling (death_of k.to u.subject held.1) (passed_on s k telling u row) named
      (record { other = other; spoken = refl; news = death_after s (profile_of s) k telling what.Accuse u held accused.count o here suspected })
      (on_passed s k Named R news telling u row named (on_told s k Named R news telling what.Accuse u.subject accused.count o r))
      (by_passed telling u row (by_told telling what.Accuse u.subject accused.count o told named h))

  by_accusation_answered : (telling : Announce) (u : Update) (held : Claim × ℕ) (accused : Option HeldSuspicion) (o : Effect) → ((x : HeldSuspicion) → accused ≡ Some x → Tells what.Accuse)
      → ((x : HeldSuspicion) → accused ≡ Some x → Timed (due_of x k.at)) → Named u.subject → ¬ (u.subject ≡ k.to) → get o.state.table u.subject ≡ Some held → is_suspect held.0 ≡ true → R o.state → P o
      → P (accusation_answered s telling k u held.1 (option_map (answer_to k.at) accused) o)
  by_accusation_answered telling u held None o told timed named other here suspected r h = h
  by_accusation_answered telling u held (Some x) o told timed named other here suspected r h =
      by_either (is_over_of o.state.suspicions u.subject k.at) (accused_confirmed s telling k u held.1 (answer_to k.at x) o) (accusation_counted s telling k u (Some (answer_to k.at x)) o)
      (λ _. by_accused_confirmed telling u held (answer_to k.at x) o (told x refl) named other here suspected r h) (λ _. by_counted telling u (Some x) o told timed named h)

  by_prompt : (telling : Announce) (u : Update) (held : Claim × ℕ) (o : Effect) → Named u.subject → ¬ (u.subject ≡ k.to) → get o.state.table u.subject ≡ Some held → is_suspect held.0 ≡ true
      → R o.state → P o → P (prompt_accusation_heard s telling k u held.1 o)
  unfolding prompt_accusation_heard
  by_prompt telling u held o named other here suspected r h =
      by_accusation_answered telling u held (accused_of o.state.suspicions u.subject u.accuser o.state.next_number) _
      (λ x is. may.accuses o.state u x r is) (λ x is. times.accusation_timer o.state u x r is) named other here suspected (news.accused o.state u r) (makes.state _ o refl h)

  by_accusation_by : (profile : Profile) (telling : Announce) (u : Update) (held : Claim × ℕ) (o : Effect) → Named u.subject → ¬ (u.subject ≡ k.to) → get o.state.table u.subject ≡ Some held
      → is_suspect held.0 ≡ true → R o.state → P o → P (accusation_by profile s telling k u held.1 o)
  by_accusation_by Papers telling u held o named other here suspected r h = by_accusation telling u o named r h
  by_accusation_by Memberlist telling u held o named other here suspected r h = by_accusation telling u o named r h
  by_accusation_by Hashicorp telling u held o named other here suspected r h = by_prompt telling u held o named other here suspected r h

  by_other : (telling : Announce) (u : Update) (held : Option (Claim × ℕ)) (o : Effect) → Named u.subject → ¬ (u.subject ≡ k.to) → is_intent u.claim ≡ false → get o.state.table u.subject ≡ held → R o.state → P o → P (other_applied s telling k u held o)
  by_other telling u None o named other spoken none r h =
      by_either (is_heeded (profile_of s) telling u.claim) (news_heard s telling k u o) o (λ _. by_news telling u o named (record { other = other; spoken = spoken; news = rw none refl }) r h) (λ _. h)
  by_other telling u (Some held) o named other spoken here r h =
      by_either (does_override (profile_of s) (u.claim, u.inc) held) (news_heard s telling k u o) (cond (is_repeated (profile_of s) u held) (accusation_by (profile_of s) s telling k u held.1 o) o)
      (λ e. by_news telling u o named (record { other = other; spoken = spoken; news = rw here e }) r h)
      (λ _. by_either (is_repeated (profile_of s) u held) (accusation_by (profile_of s) s telling k u held.1 o) o
      (λ e. by_accusation_by (profile_of s) telling u held o named other here (repeated_suspect (profile_of s) u held e) r h) (λ _. h))

  by_intent : (u : Update) (serf : Option Serf) (o : Effect) → P o → P (intent_applied s k u serf o)
  by_intent u None o h = h
  by_intent u (Some serf) o h = by_either (is_known_intent k.to u.subject o.state) o _ (λ _. h) (λ _. by_gossip_set s.gossip _ refl (makes.state _ o refl h))

  by_claim_applied : (telling : Announce) (u : Update) (o : Effect) → Named u.subject → is_intent u.claim ≡ false → R o.state → P o → P (claim_applied s telling k u o)
  unfolding claim_applied
  by_claim_applied telling u o named spoken r h =
      by_either (nat_eq u.subject k.to) (own_applied s k u.claim u.inc o) (other_applied s telling k u (get o.state.table u.subject) o)
      (λ _. by_own u.claim u.inc o r h) (λ e. by_other telling u (get o.state.table u.subject) o named (eqb-false u.subject k.to e) spoken refl r h)

  by_applied : (telling : Announce) (u : Update) (o : Effect) → Named u.subject → R o.state → P o → P (applied s telling k u o)
  unfolding applied
  by_applied telling u o named r h =
      by_either (is_intent u.claim) (intent_applied s k u s.serf o) (claim_applied s telling k u o) (λ _. by_intent u s.serf o h) (λ spoken. by_claim_applied telling u o named spoken r h)

  by_all : (telling : Announce) (us : List Update) (o : Effect) → AllNamed Named us → R o.state → P o → P (all_applied s telling k us o)
  unfolding all_applied
  by_all telling [] o named r h = h
  by_all telling (u ∷ us) o named r h = by_all telling us (applied s telling k u o) named.1 (on_applied s k Named R news moves telling u o named.0 r) (by_applied telling u o named.0 r h)

  -- ---- start, crash and join

  by_push_begun : (profile : Profile) (t : State) (gossip : settings.Gossip) (o : Effect) → s.gossip ≡ Some gossip → nat_eq gossip.push 0 ≡ false → R t → R o.state → P o
      → P (push_begun_by profile s k (k.at + (1 + (below_of t.words s.swim.spread).0)) gossip.push o)
  unfolding push_begun even_push_begun
  by_push_begun Papers t gossip o is some r r' h = makes.event _ k.to PushTimer _ (times.first_push gossip is some t o.state r r') moves.own tt (makes.state _ o refl h)
  by_push_begun Memberlist t gossip o is some r r' h = makes.event _ k.to PushTimer _ (times.first_push gossip is some t o.state r r') moves.own tt (makes.state _ o refl h)
  by_push_begun Hashicorp t gossip o is some r r' h = makes.event _ k.to PushTimer _ (times.even_push gossip is some t o.state r r') moves.own tt (makes.state _ o refl h)

  by_first_push : (t : State) (gossip : Option settings.Gossip) (o : Effect) → s.gossip ≡ gossip → R t → R o.state → P o
      → P (first_push_set s k (k.at + (1 + (below_of t.words s.swim.spread).0)) gossip o)
  by_first_push t None o is r r' h = h
  by_first_push t (Some gossip) o is r r' h = by_either (nat_eq gossip.push 0) o _ (λ _. h) (λ some. by_push_begun (profile_of s) t gossip o is some r r' h)

  by_first_period : (o : Effect) → R o.state → P o → P (first_period_set s k o)
  unfolding first_period_set
  by_first_period o r h =
      let drawn = below_of o.state.words s.swim.spread in
      let there = moves.beaten (record o.state { words = drawn.1 }) (k.at + (1 + drawn.0)) (moves.drawn o.state drawn.1 (below_rest o.state.words s.swim.spread) r) in
      by_first_push o.state s.gossip _ refl r (on_timer s k Named R news moves (1 + drawn.0) PeriodTimer (on_state (λ t. record t { beat = k.at + (1 + drawn.0); words = drawn.1 }) o) there)
      (by_timer _ PeriodTimer _ (times.first_period o.state r) tt (makes.state _ o refl h))

  by_began : (o : Effect) → R (at_once s k o.state) → P o → P (began s k o)
  unfolding began
  by_began o r h =
      by_first_period _ (on_first_round s k Named R news moves (profile_of s) (at_once s k o.state) r)
      (makes.state (first_round (profile_of s) (at_once s k o.state)) o (round_number (profile_of s) (at_once s k o.state)) h)

  by_join_asked : (o : Effect) → R o.state → P o → P (join_asked s k o)
  unfolding join_asked
  by_join_asked o r h = by_timer s.swim.period JoinTimer _ times.join_timer tt (by_join o r h)

  by_late : (o : Effect) → R (at_late o.state) → P o → P (joining_begun s k o)
  unfolding joining_begun
  by_late o r h = by_join_asked _ r (makes.state _ o refl h)

  by_started : (o : Effect) → R (at_once s k o.state) → R (at_late o.state) → P o → P (started s k o)
  unfolding started with_row
  by_started o once late h =
      let told = makes.row _ None 0 false o (may.plain _ tt) tt h in
      by_either (nat_eq (start_of s k.to) 0) (began s k (with_row k _ None 0 false o)) (joining_begun s k (with_row k _ None 0 false o))
      (λ _. by_began (with_row k _ None 0 false o) once told) (λ _. by_late (with_row k _ None 0 false o) late told)

  by_crashed : (o : Effect) → P o → P (crashed k o)
  unfolding crashed
  by_crashed o h = makes.row _ None 0 false _ (may.plain _ tt) tt (makes.state _ o refl h)

  by_join_handled : (o : Effect) → Named k.from → R o.state → P o → P (join_handled s k o)
  unfolding join_handled
  by_join_handled o sender r h = by_welcome k.from _ sender (on_applied s k Named R news moves Aloud _ o sender r) (by_applied Aloud _ o sender r h)

  by_joined : (entries : List Update) (o : Effect) → Named k.from → AllNamed Named entries → R o.state → P o → P (joined s k entries o)
  unfolding joined
  by_joined entries o sender named r h =
      let there = on_row s k Named R news what.Joined (Some k.from) (length (about_others k.to entries)) false (on_state (λ t. record t { phase = Running }) o) (moves.welcomed o.state r) in
      by_first_period _ (on_all s k Named R news moves Quietly entries _ named there) (by_all Quietly entries _ named there
      (makes.row _ (Some k.from) _ false _ (may.plain _ tt) sender (makes.state _ o refl h)))

  -- ---- probes

  by_suspected : (target : ℕ) (held : Option (Claim × ℕ)) (o : Effect) → get o.state.table target ≡ held → R o.state → P o → P (suspected s k target held o)
  by_suspected target None o none r h = h
  by_suspected target (Some held) o here r h =
      by_either (is_confirm held.0) o (applied s Aloud k (record { subject = target; claim = Suspect; inc = held.1; accuser = k.to }) o)
      (λ _. h) (λ _. by_applied Aloud _ o (moves.known o.state target held r here) r h)

  by_failed : (probe : Probe) (o : Effect) → Named probe.target → R o.state → P o → P (probe_failed s k probe o)
  unfolding probe_failed
  by_failed probe o named r h =
      let told = with_row k what.Fail (Some probe.target) probe.seq false o in
      let there : R told.state = on_row s k Named R news what.Fail (Some probe.target) probe.seq false o r in
      let weighed = on_weighed s k Named R news moves probe.acked (failures_of probe) told.state there in
      by_suspected probe.target _ _ refl (on_health s k Named R news moves (after_probe told.state.health probe) told weighed)
      (by_health (after_probe told.state.health probe) told there weighed (makes.row what.Fail (Some probe.target) probe.seq false o (may.plain what.Fail tt) named h))

  by_ended : (probe : Option Probe) (o : Effect) → o.state.probe ≡ probe → R o.state → P o → P (probe_ended s k probe o)
  unfolding probe_ended
  by_ended None o none r h = h
  by_ended (Some probe) o here r h =
      by_either probe.acked (with_health k (after_probe o.state.health probe) o) (probe_failed s k probe o)
      (λ _. by_health (after_probe o.state.health probe) o r (on_weighed s k Named R news moves probe.acked (failures_of probe) o.state r) h) (λ _. by_failed probe o (moves.aimed o.state probe r here) r h)

  by_begun : (target : ℕ) (o : Effect) → Named target → R o.state → P o → P (probe_begun s k target o)
  unfolding probe_begun
  by_begun target o named r h =
      let probing = moves.probing o.state (o.state.sequence + 1) _ (omega arith) (one_target Named (fresh_probe (o.state.sequence + 1) target) named) r in
      by_timer _ (TimeoutTimer (o.state.sequence + 1)) _ (times.timeout_timer _ (on_ping s k Named R news moves target k.to (o.state.sequence + 1) _ probing)) tt
      (by_ping target k.to _ _ named moves.own probing (makes.state _ o refl h))

  by_target : (target : Option ℕ) (o : Effect) → ((q : ℕ) → target ≡ Some q → Named q) → R o.state → P o → P (target_probed s k target o)
  by_target None o named r h = makes.state _ o refl h
  by_target (Some target) o named r h = by_begun target o (named target refl) r h

  by_next : (o : Effect) → R o.state → P o → P (next_probed s k o)
  unfolding next_probed
  by_next o r h = by_target (next_of o.state.words o.state.rota).0 _ (λ q is. moves.targets o.state q r is) (moves.turned o.state r) (makes.state _ o refl h)

  by_period : (o : Effect) → R o.state → P o → P (period_begun s k o)
  unfolding period_begun
  by_period o r h =
      let there = on_ended s k Named R news moves o.state.probe o r in
      by_timer _ PeriodTimer _ (times.period_timer _ (on_next s k Named R news moves _ there)) tt (by_next _ there (by_ended o.state.probe o refl r h))

  by_expected : (probe : Probe) (count : ℕ) (o : Effect) → P o → P (with_expected s probe count o)
  by_expected probe count o h = by_either s.lifeguard.probe _ o (λ _. makes.state _ o refl h) (λ _. h)

  by_help : (probe : Probe) (o : Effect) → Named probe.target → R o.state → P o → P (help_asked s k probe o)
  unfolding help_asked
  by_help probe o named r h =
      by_expected probe _ _ (by_each (ping_req_sent s k probe.target probe.seq) (on_ping_req s k Named R news moves probe.target probe.seq) (λ to o there r h. by_ping_req probe.target probe.seq to o named there r h) _ _ (carries.helpers o.state probe.target s.swim.helpers r)
      (moves.drawn o.state _ (helpers_rest o.state.words s.swim.helpers (alive_but probe.target o.state.table)) r) (makes.state _ o refl h))

  by_timed_out : (seq : ℕ) (probe : Option Probe) (o : Effect) → o.state.probe ≡ probe → R o.state → P o → P (timed_out s k seq probe o)
  unfolding timed_out
  by_timed_out seq None o here r h = h
  by_timed_out seq (Some probe) o here r h =
      by_either (nat_eq probe.seq seq && not probe.acked && nat_lt 0 s.swim.helpers) (help_asked s k probe o) o (λ _. by_help probe o (moves.aimed o.state probe r here) r h) (λ _. h)

  by_nack_heard : (seq : ℕ) (o : Effect) → P o → P (nack_heard seq o)
  unfolding nack_heard
  by_nack_heard seq o h = makes.state _ o refl h

  by_ping_heard : (initiator seq : ℕ) (updates : List Update) (o : Effect) → Named k.from → Named initiator → AllNamed Named updates → R o.state → P o → P (ping_heard s k initiator seq updates o)
  unfolding ping_heard
  by_ping_heard initiator seq updates o sender begun named r h =
      by_ack k.from initiator seq _ sender begun (on_all s k Named R news moves Aloud updates o named r) (by_all Aloud updates o named r h)

  by_relay : (seq : ℕ) (o : Effect) → Named k.from → P o → P (with_relay s k seq o)
  by_relay seq o sender h = by_timer _ (NackTimer k.from seq) _ times.nack_timer sender (makes.state _ o refl h)

  by_ping_req_heard : (seq target : ℕ) (updates : List Update) (o : Effect) → Named k.from → Named target → AllNamed Named updates → R o.state → P o → P (ping_req_heard s k seq target updates o)
  unfolding ping_req_heard
  by_ping_req_heard seq target updates o sender there named r h =
      let pinged = by_ping target k.from seq _ there sender (on_all s k Named R news moves Aloud updates o named r) (by_all Aloud updates o named r h) in
      by_either s.lifeguard.probe (with_relay s k seq (ping_sent s k target k.from seq (all_applied s Aloud k updates o))) _ (λ _. by_relay seq _ sender pinged) (λ _. pinged)

  by_taken : (initiator seq : ℕ) (o : Effect) → Named initiator → R o.state → P o → P (ack_taken s k initiator seq o)
  unfolding ack_taken
  by_taken initiator seq o begun r h =
      by_either (nat_eq initiator k.to) (on_state (λ t. record t { probe = answered seq t.probe }) o) _
      (λ _. makes.state _ o refl h) (λ _. by_ack initiator initiator seq _ begun begun (moves.relay_removed o.state (initiator, seq) r) (makes.state _ o refl h))

  by_ack_heard : (initiator seq : ℕ) (updates : List Update) (o : Effect) → Named initiator → AllNamed Named updates → R o.state → P o → P (ack_heard s k initiator seq updates o)
  unfolding ack_heard
  by_ack_heard initiator seq updates o begun named r h =
      by_taken initiator seq _ begun (on_all s k Named R news moves Aloud updates o named r) (by_all Aloud updates o named r h)

  by_nack_due : (initiator seq : ℕ) (o : Effect) → Named initiator → SendsNacks s → R o.state → P o → P (nack_due s k initiator seq o)
  unfolding nack_due
  by_nack_due initiator seq o begun sends r h =
      by_either (set.contains o.state.relays (initiator, seq)) _ o
      (λ here. by_nack initiator seq _ begun (may.nacks o.state (initiator, seq) r here sends) (moves.relay_removed o.state (initiator, seq) r) (makes.state _ o refl h)) (λ _. h)

  -- ---- suspicions

  by_confirmed : (subject : ℕ) (held : Option (Claim × ℕ)) (o : Effect) → get o.state.table subject ≡ held → R o.state → P o → P (confirmed s k subject held o)
  by_confirmed subject None o none r h = h
  by_confirmed subject (Some held) o here r h = by_applied Aloud _ o (moves.known o.state subject held r here) r h

  by_over : (subject : ℕ) (o : Effect) → R o.state → P o → P (suspicion_over s k subject o)
  unfolding suspicion_over
  by_over subject o r h =
      by_either (is_due o.state.suspicions subject k.number) (confirmed s k subject (get o.state.table subject) o) o
      (λ _. by_confirmed subject (get o.state.table subject) o refl r h) (λ _. h)

  -- ---- leaves

  by_withdrawn : SomeLeave → (o : Effect) → P o → P (withdrawn k o)
  unfolding withdrawn
  by_withdrawn some o h = makes.state _ _ refl (makes.row what.Leave None 0 false o (may.plain what.Leave some) tt h)

  by_byes : SomeLeave → (o : Effect) → R o.state → P o → P (byes_said s k o)
  unfolding byes_said
  by_byes some o r h =
      by_each (bye_sent s k) (on_bye s k Named R news moves) (by_bye some) _ _ (carries.helpers o.state k.to (max 1 s.swim.helpers) r)
      (moves.drawn o.state _ (helpers_rest o.state.words (max 1 s.swim.helpers) (alive_but k.to o.state.table)) r) (makes.state _ o refl h)

  by_departed : SomeLeave → (o : Effect) → R o.state → P o → P (departed s k o)
  unfolding departed
  by_departed some o r h =
      makes.state _ _ refl (by_byes some (with_row k what.Leave None 0 false o) (on_row s k Named R news what.Leave None 0 false o r) (makes.row what.Leave None 0 false o (may.plain what.Leave some) tt h))

  -- ---- probes by memberlist's rules

  by_suspected_at : (probe : Probe) (held : Option (Claim × ℕ)) (o : Effect) → get o.state.table probe.target ≡ held → R o.state → P o → P (suspected_at s k probe held o)
  by_suspected_at probe None o none r h = h
  by_suspected_at probe (Some held) o here r h =
      by_either (is_confirm held.0) o (applied s Aloud k (record { subject = probe.target; claim = Suspect; inc = probe.number; accuser = k.to }) o)
      (λ _. h) (λ _. by_applied Aloud _ o (moves.known o.state probe.target held r here) r h)

  by_timed_failed : (probe : Probe) (o : Effect) → Named probe.target → R o.state → P o → P (timed_probe_failed s k probe o)
  unfolding timed_probe_failed
  by_timed_failed probe o named r h =
      let told = with_row k what.Fail (Some probe.target) probe.seq false o in
      let there : R told.state = on_row s k Named R news what.Fail (Some probe.target) probe.seq false o r in
      let weighed = on_weighed s k Named R news moves probe.reached (misses_of probe) told.state there in
      by_suspected_at probe _ _ refl (on_health s k Named R news moves (after_deadline told.state.health probe) told weighed)
      (by_health (after_deadline told.state.health probe) told there weighed (makes.row what.Fail (Some probe.target) probe.seq false o (may.plain what.Fail tt) named h))

  ended : (o : Effect) → R o.state → R (record o.state { probe = None })
  ended o r = moves.probing o.state o.state.sequence None (omega arith) (no_target Named) r

  by_settled : (probe : Option Probe) (o : Effect) → o.state.probe ≡ probe → R o.state → P o → P (probe_settled s k probe o)
  unfolding probe_settled
  by_settled None o none r h = h
  by_settled (Some probe) o here r h =
      let none = makes.state (record o.state { probe = None }) o refl h in
      by_either probe.reached _ _
      (λ _. by_health (after_deadline o.state.health probe) _ (ended o r) (on_weighed s k Named R news moves probe.reached (misses_of probe) (record o.state { probe = None }) (ended o r)) none)
      (λ _. by_timed_failed probe _ (moves.aimed o.state probe r here) (ended o r) none)

  by_timed_begun : (next_beat : Option ℕ) (target : ℕ) (o : Effect) → Named target → R o.state → P o → P (timed_probe_begun s k next_beat target o)
  unfolding timed_probe_begun
  by_timed_begun next_beat target o named r h =
      let probe = timed_probe (o.state.sequence + 1) target (option_map_or (λ held. held.1) (get o.state.table target) 0) (k.at + scaled o.state.health s.swim.period) in
      let probing = moves.probing o.state (o.state.sequence + 1) (Some probe) (omega arith) (one_target Named probe named) r in
      let timed = by_timer _ (TimeoutTimer (o.state.sequence + 1)) _ times.plain_timeout tt (by_ping target k.to _ _ named moves.own probing (makes.state _ o refl h)) in
      by_either (needs_timer next_beat _) _ _
      (λ _. makes.event _ k.to (DeadlineTimer (o.state.sequence + 1)) _ (times.period_timer o.state r) moves.own tt timed) (λ _. makes.lost _ timed)

  by_timed_target : (next_beat target : Option ℕ) (o : Effect) → ((q : ℕ) → target ≡ Some q → Named q) → R o.state → P o → P (timed_target_probed s k next_beat target o)
  by_timed_target next_beat None o named r h = makes.state _ o refl h
  by_timed_target next_beat (Some target) o named r h = by_timed_begun next_beat target o (named target refl) r h

  by_next_timed : (next_beat : Option ℕ) (o : Effect) → R o.state → P o → P (next_timed_probed s k next_beat o)
  unfolding next_timed_probed
  by_next_timed next_beat o r h = by_timed_target next_beat (next_of o.state.words o.state.rota).0 _ (λ q is. moves.targets o.state q r is) (moves.turned o.state r) (makes.state _ o refl h)

  by_waiting_probed : (o : Effect) → R o.state → P o → P (waiting_probed s k o)
  by_waiting_probed o r h = by_either o.state.waits _ o (λ _. by_next_timed None _ (moves.waiting o.state false r) (makes.state _ o refl h)) (λ _. h)

  by_in_turn : (next_beat : ℕ) (o : Effect) → R o.state → P o → P (probed_in_turn s k next_beat o)
  by_in_turn next_beat o r h =
      by_either (has_time k.at o.state.probe) _ _ (λ _. makes.state _ o refl h)
      (λ _. by_next_timed (Some next_beat) _ (on_settled s k Named R news moves o.state.probe o r) (by_settled o.state.probe o refl r h))

  by_beaten : (o : Effect) → R o.state → P o → P (period_beaten s k o)
  unfolding period_beaten
  by_beaten o r h =
      by_in_turn _ _ (on_event s k Named R news (next_in_step o.state.beat s.swim.period k.at) k.to PeriodTimer o r) (makes.event _ k.to PeriodTimer o (times.beat o.state.beat) moves.own tt h)

  by_deadline : (seq : ℕ) (o : Effect) → R o.state → P o → P (deadline_over s k seq o)
  unfolding deadline_over
  by_deadline seq o r h =
      by_either (is_under_way seq o.state.probe) _ o (λ _. by_waiting_probed _ (on_settled s k Named R news moves o.state.probe o r) (by_settled o.state.probe o refl r h)) (λ _. h)

  by_timed_answered : (seq : ℕ) (o : Effect) → R o.state → P o → P (timed_answered s k seq o)
  unfolding timed_answered
  by_timed_answered seq o r h =
      let none = record o.state { probe = None } in
      let mended = moves.mended none (ended o r) in
      by_either (is_under_way seq o.state.probe) _ o
      (λ _. by_waiting_probed _ (on_health s k Named R news moves (lowered o.state.health) (on_state (λ t. record t { probe = None }) o) mended)
      (by_health (lowered o.state.health) _ (ended o r) mended (makes.state none o refl h))) (λ _. h)

  by_timed_ack : (initiator seq : ℕ) (updates : List Update) (o : Effect) → Named initiator → AllNamed Named updates → R o.state → P o → P (timed_ack_heard s k initiator seq updates o)
  unfolding timed_ack_heard
  by_timed_ack initiator seq updates o begun named r h =
      let there = on_all s k Named R news moves Aloud updates o named r in
      let heard = by_all Aloud updates o named r h in
      by_either (nat_eq initiator k.to) _ _ (λ _. by_timed_answered seq _ there heard) (λ _. by_taken initiator seq _ begun there heard)

  by_sampled : (probe : Probe) (o : Effect) → Named probe.target → R o.state → P o → P (sampled_help s k probe o)
  unfolding sampled_help
  by_sampled probe o named r h =
      by_expected probe _ _ (by_each (ping_req_sent s k probe.target probe.seq) (on_ping_req s k Named R news moves probe.target probe.seq) (λ to o there r h. by_ping_req probe.target probe.seq to o named there r h) _ _
      (carries.sample o.state (AliveBut probe.target) s.swim.helpers r) (moves.drawn o.state _ (sample_rest o.state.words s.swim.helpers _) r) (makes.state _ o refl h))

  by_helped : (probe : Probe) (o : Effect) → Named probe.target → R o.state → P o → P (helped s k probe o)
  by_helped probe o named r h = by_either (nat_lt 0 s.swim.helpers) _ o (λ _. by_sampled probe o named r h) (λ _. h)

  by_called : (probe : Probe) (o : Effect) → Named probe.target → R o.state → P o → P (called s k probe o)
  by_called probe o named r h = by_either s.swim.fallback _ o (λ _. by_call probe.target probe.seq o named r h) (λ _. h)

  by_timed_out_timed : (seq : ℕ) (probe : Option Probe) (o : Effect) → o.state.probe ≡ probe → R o.state → P o → P (timed_out_timed s k seq probe o)
  unfolding timed_out_timed
  by_timed_out_timed seq None o here r h = h
  by_timed_out_timed seq (Some probe) o here r h =
      let named = moves.aimed o.state probe r here in
      by_either (nat_eq probe.seq seq) _ o (λ _. by_called probe _ named (on_helped s k Named R news moves probe o named r) (by_helped probe o named r h)) (λ _. h)

  by_answer_heard : (seq : ℕ) (o : Effect) → P o → P (answer_heard seq o)
  unfolding answer_heard
  by_answer_heard seq o h = makes.state _ o refl h

  -- ---- gossip and pushes

  by_spread : (gossip : settings.Gossip) (o : Effect) → R o.state → P o → P (gossip_spread s k gossip o)
  unfolding gossip_spread
  by_spread gossip o r h =
      by_each (gossip_sent s k) (on_gossip s k Named R news moves) by_gossip _ _ (carries.sample o.state (Reachable k.at gossip.dead) gossip.nodes r)
      (moves.drawn o.state _ (sample_rest o.state.words gossip.nodes _) r) (makes.state _ o refl h)

  by_round : (gossip : settings.Gossip) (o : Effect) → R o.state → P o → P (gossip_round s k gossip o)
  by_round gossip o r h =
      by_either (is_told_out o.state) o _ (λ _. h) (λ _. let spread = by_spread gossip o r h in by_either (is_told_out (gossip_spread s k gossip o).state) (gossip_spread s k gossip o) _ (λ _. spread) (λ _. by_gossip_set s.gossip _ refl spread))

  by_gossip_due : (gossip : Option settings.Gossip) (o : Effect) → R o.state → P o → P (gossip_due s k gossip o)
  by_gossip_due None o r h = h
  by_gossip_due (Some gossip) o r h = by_round gossip _ (news.gossiping o.state false r) (makes.state _ o refl h)

  by_merged : (us : List Update) (o : Effect) → AllNamed Named us → R o.state → P o → P (merged s k us o)
  unfolding merged
  by_merged us o named r h = by_all Aloud (map (merged_claim k.to) us) o (merged_named s k Named R news moves us named) r h

  by_pushed : (gossip : settings.Gossip) (o : Effect) → s.gossip ≡ Some gossip → R o.state → P o → P (pushed s k gossip.push o)
  unfolding pushed
  by_pushed gossip o is r h =
      let drawn = sample_of o.state.words 1 (candidates_for k (AliveBut k.to) o.state) in
      let there = moves.drawn o.state drawn.1 (sample_rest o.state.words 1 _) r in
      by_each (push_sent s k) (on_push_sent s k Named R news moves) by_push_sent _ _ (carries.sample o.state (AliveBut k.to) 1 r)
      (on_timer s k Named R news moves (push_period gossip.push (size_by (profile_of s) o.state.table)) PushTimer (on_state (λ t. record t { words = drawn.1 }) o) there)
      (by_timer _ PushTimer _ (times.push_timer gossip is o.state r) tt (makes.state _ o refl h))

  by_push_due : (gossip : Option settings.Gossip) (o : Effect) → s.gossip ≡ gossip → R o.state → P o → P (push_due s k gossip o)
  by_push_due None o is r h = h
  by_push_due (Some gossip) o is r h = by_either (nat_eq gossip.push 0) o _ (λ _. h) (λ _. by_pushed gossip o is r h)

  by_push_heard : (us : List Update) (o : Effect) → Named k.from → AllNamed Named us → R o.state → P o → P (push_heard s k us o)
  unfolding push_heard
  by_push_heard us o sender named r h = by_merged us _ named (on_pull s k Named R news moves k.from o r) (by_pull k.from o sender r h)

  -- ---- the step

  by_plain : (content : EventKind) (phase : Phase) (o : Effect) → Named k.from → NamesOnly Named SomeLeave content → NackMaySend s phase content → (¬ (phase ≡ Waiting) → R o.state)
      → (phase ≡ Waiting → R (at_once s k o.state)) → (phase ≡ Waiting → R (at_late o.state)) → P o → P (plain_handled s k content phase o)
  unfolding plain_handled
  by_plain Start Waiting o sender named sends r once late h = by_started o (once refl) (late refl) h
  by_plain Start Joining o sender named sends r once late h = h
  by_plain Start Running o sender named sends r once late h = h
  by_plain Start Down o sender named sends r once late h = h
  by_plain Crash Waiting o sender named sends r once late h = h
  by_plain Crash Joining o sender named sends r once late h = by_crashed o h
  by_plain Crash Running o sender named sends r once late h = by_crashed o h
  by_plain Crash Down o sender named sends r once late h = h
  by_plain JoinTimer Waiting o sender named sends r once late h = h
  by_plain JoinTimer Joining o sender named sends r once late h = by_join_asked o (r joins) h
  by_plain JoinTimer Running o sender named sends r once late h = h
  by_plain JoinTimer Down o sender named sends r once late h = h
  by_plain PeriodTimer Waiting o sender named sends r once late h = h
  by_plain PeriodTimer Joining o sender named sends r once late h = h
  by_plain PeriodTimer Running o sender named sends r once late h = by_period o (r runs) h
  by_plain PeriodTimer Down o sender named sends r once late h = h
  by_plain (TimeoutTimer seq) Waiting o sender named sends r once late h = h
  by_plain (TimeoutTimer seq) Joining o sender named sends r once late h = h
  by_plain (TimeoutTimer seq) Running o sender named sends r once late h = by_timed_out seq o.state.probe o refl (r runs) h
  by_plain (TimeoutTimer seq) Down o sender named sends r once late h = h
  by_plain (NackTimer initiator seq) Waiting o sender named sends r once late h = h
  by_plain (NackTimer initiator seq) Joining o sender named sends r once late h = h
  by_plain (NackTimer initiator seq) Running o sender named sends r once late h = by_nack_due initiator seq o named sends (r runs) h
  by_plain (NackTimer initiator seq) Down o sender named sends r once late h = h
  by_plain (SuspicionTimer subject) Waiting o sender named sends r once late h = h
  by_plain (SuspicionTimer subject) Joining o sender named sends r once late h = h
  by_plain (SuspicionTimer subject) Running o sender named sends r once late h = by_over subject o (r runs) h
  by_plain (SuspicionTimer subject) Down o sender named sends r once late h = h
  by_plain Join Waiting o sender named sends r once late h = h
  by_plain Join Joining o sender named sends r once late h = h
  by_plain Join Running o sender named sends r once late h = by_join_handled o sender (r runs) h
  by_plain Join Down o sender named sends r once late h = h
  by_plain (Welcome entries) Waiting o sender named sends r once late h = h
  by_plain (Welcome entries) Joining o sender named sends r once late h = by_joined entries o sender named (r joins) h
  by_plain (Welcome entries) Running o sender named sends r once late h = h
  by_plain (Welcome entries) Down o sender named sends r once late h = h
  by_plain (Ping initiator seq updates) Waiting o sender named sends r once late h = h
  by_plain (Ping initiator seq updates) Joining o sender named sends r once late h = h
  by_plain (Ping initiator seq updates) Running o sender named sends r once late h = by_ping_heard initiator seq updates o sender named.0 named.1 (r runs) h
  by_plain (Ping initiator seq updates) Down o sender named sends r once late h = h
  by_plain (PingReq target seq updates) Waiting o sender named sends r once late h = h
  by_plain (PingReq target seq updates) Joining o sender named sends r once late h = h
  by_plain (PingReq target seq updates) Running o sender named sends r once late h = by_ping_req_heard seq target updates o sender named.0 named.1 (r runs) h
  by_plain (PingReq target seq updates) Down o sender named sends r once late h = h
  by_plain (Ack initiator seq updates) Waiting o sender named sends r once late h = h
  by_plain (Ack initiator seq updates) Joining o sender named sends r once late h = h
  by_plain (Ack initiator seq updates) Running o sender named sends r once late h = by_ack_heard initiator seq updates o named.0 named.1 (r runs) h
  by_plain (Ack initiator seq updates) Down o sender named sends r once late h = h
  by_plain (Nack seq) Waiting o sender named sends r once late h = h
  by_plain (Nack seq) Joining o sender named sends r once late h = h
  by_plain (Nack seq) Running o sender named sends r once late h = by_nack_heard seq o h
  by_plain (Nack seq) Down o sender named sends r once late h = h
  by_plain Leave phase o sender named sends r once late h = h
  by_plain Bye phase o sender named sends r once late h = h
  by_plain (DeadlineTimer seq) phase o sender named sends r once late h = h
  by_plain GossipTimer phase o sender named sends r once late h = h
  by_plain PushTimer phase o sender named sends r once late h = h
  by_plain (Call seq) phase o sender named sends r once late h = h
  by_plain (Answer seq) phase o sender named sends r once late h = h
  by_plain (Gossip updates) phase o sender named sends r once late h = h
  by_plain (Push entries) phase o sender named sends r once late h = h
  by_plain (Pull entries) phase o sender named sends r once late h = h
  by_plain (Restart contact) phase o sender named sends r once late h = h
  by_plain SettingTimer phase o sender named sends r once late h = h
  by_plain (ConnectedTimer to) phase o sender named sends r once late h = h
  by_plain ReconnectTimer phase o sender named sends r once late h = h
  by_plain ExitTimer phase o sender named sends r once late h = h

  by_handled : (content : EventKind) (phase : Phase) (o : Effect) → Named k.from → NamesOnly Named SomeLeave content → NackMaySend s phase content → (¬ (phase ≡ Waiting) → R o.state)
      → (phase ≡ Waiting → R (at_once s k o.state)) → (phase ≡ Waiting → R (at_late o.state)) → P o → P (handled s k content phase o)
  unfolding handled
  by_handled Leave Joining o sender named sends r once late h = by_withdrawn named o h
  by_handled Leave Running o sender named sends r once late h = by_departed named o (r runs) h
  by_handled Bye Running o sender named sends r once late h = by_confirmed k.from (get o.state.table k.from) o refl (r runs) h
  by_handled content phase o sender named sends r once late h = by_plain content phase o sender named sends r once late h

  by_timed : (content : EventKind) (o : Effect) → Named k.from → NamesOnly Named SomeLeave content → MaySendWhileRunning s content → R o.state → P o → P (timed_handled s k content o)
  unfolding timed_handled
  by_timed PeriodTimer o sender named sends r h = by_beaten o r h
  by_timed (TimeoutTimer seq) o sender named sends r h = by_timed_out_timed seq o.state.probe o refl r h
  by_timed (DeadlineTimer seq) o sender named sends r h = by_deadline seq o r h
  by_timed (Ack initiator seq updates) o sender named sends r h = by_timed_ack initiator seq updates o named.0 named.1 r h
  by_timed (Call seq) o sender named sends r h = by_answer k.from seq o sender r h
  by_timed (Answer seq) o sender named sends r h = by_answer_heard seq o h
  by_timed GossipTimer o sender named sends r h = by_gossip_due s.gossip o r h
  by_timed (Gossip updates) o sender named sends r h = by_all Aloud updates o named r h
  by_timed PushTimer o sender named sends r h = by_push_due s.gossip o refl r h
  by_timed (Push entries) o sender named sends r h = by_push_heard entries o sender named r h
  by_timed (Pull entries) o sender named sends r h = by_merged entries o named r h
  by_timed content o sender named sends r h = by_handled content Running o sender named sends (λ _. r) (λ waits. absurd (runs waits)) (λ waits. absurd (runs waits)) h

  -- ---- by memberlist 0.5.0's rules

  by_plain_ping : (to initiator seq : ℕ) (o : Effect) → Named to → Named initiator → R o.state → P o → P (plain_ping_sent s k to initiator seq o)
  unfolding plain_ping_sent
  by_plain_ping to initiator seq o there named r h = by_sent _ to seq _ _ (may.plain _ tt) there (named, carries.plain o.state _ r) (on_riding s k Named R news moves _ o r) (by_riding _ o h)

  by_lone : (to seq : ℕ) (buddy : Option Update) (o : Effect) → Named to → IfSome buddy (λ u. Named u.subject) → R o.state → P o → P (ping_with_lone s k to seq buddy o)
  by_lone to seq None o there about r h = by_plain_ping to k.to seq o there moves.own r h
  by_lone to seq (Some buddy) o there about r h = by_sent _ to seq _ o (may.plain _ tt) there (moves.own, (about, tt)) r h

  by_probe_ping : (to seq : ℕ) (o : Effect) → Named to → R o.state → P o → P (probe_ping_sent s k to seq o)
  unfolding probe_ping_sent lone_buddy_of
  by_probe_ping to seq o there r h = by_lone to seq _ o there (lone_about Named s.lifeguard.buddy k.to to (get o.state.table to) there) r h

  by_single_begun : (target : ℕ) (o : Effect) → Named target → R o.state → P o → P (single_probe_begun s k target o)
  unfolding single_probe_begun
  by_single_begun target o named r h =
      let probe = timed_probe (o.state.sequence + 1) target (option_map_or (λ held. held.1) (get o.state.table target) 0) (k.at + scaled o.state.health s.swim.period) in
      let probing = moves.probing o.state (o.state.sequence + 1) (Some probe) (omega arith) (one_target Named probe named) r in
      let timed = by_timer _ (TimeoutTimer (o.state.sequence + 1)) _ times.plain_timeout tt (by_probe_ping target _ _ named probing (makes.state _ o refl h)) in
      by_either _ _ _ (λ _. makes.lost _ timed) (λ _. makes.event _ k.to (DeadlineTimer (o.state.sequence + 1)) _ (times.period_timer o.state r) moves.own tt timed)

  by_blocked_begun : (target : ℕ) (o : Effect) → Named target → R o.state → P o → P (blocked_probe_begun s k target (departs_at s k) o)
  unfolding blocked_probe_begun
  by_blocked_begun target o named r h =
      let deadline = max (k.at + scaled o.state.health s.swim.period) (departs_at s k) in
      let probe = timed_probe (o.state.sequence + 1) target (option_map_or (λ held. held.1) (get o.state.table target) 0) deadline in
      let probing = moves.probing o.state (o.state.sequence + 1) (Some probe) (omega arith) (one_target Named probe named) r in
      makes.event deadline k.to (DeadlineTimer (o.state.sequence + 1)) _ (times.blocked_deadline o.state r) moves.own tt
      (makes.event _ k.to (TimeoutTimer (o.state.sequence + 1)) _ (times.blocked_timeout o.state r) moves.own tt (by_probe_ping target _ _ named probing (makes.state _ o refl h)))

  by_single_target : (target : Option ℕ) (o : Effect) → ((q : ℕ) → target ≡ Some q → Named q) → R o.state → P o → P (single_target_probed s k target o)
  by_single_target None o named r h = makes.state _ o refl h
  by_single_target (Some target) o named r h =
      by_either (nat_lt k.at (departs_at s k)) (blocked_probe_begun s k target (departs_at s k) o) (single_probe_begun s k target o)
      (λ _. by_blocked_begun target o (named target refl) r h) (λ _. by_single_begun target o (named target refl) r h)

  by_forgotten_if : (member : ℕ) (held : Option (Claim × ℕ)) (o : Effect) → get o.state.table member ≡ held → R o.state → P o → P (forgotten_if s k member held o)
  by_forgotten_if member None o none r h = h
  by_forgotten_if member (Some held) o here r h =
      by_either (is_long_dead k.at (kept_for s.gossip) (o.state.since member) held.0) _ o
      (λ _. makes.row what.Forget (Some member) held.1 false (on_state (without_entry member) o) (may.plain what.Forget tt) (moves.known o.state member held r here) (makes.state _ o refl h)) (λ _. h)

  by_turn_probed : (o : Effect) → R o.state → P o → P (turn_probed s k o)
  unfolding turn_probed
  by_turn_probed o r h = by_single_target (next_of o.state.words o.state.rota).0 _ (λ q is. moves.targets o.state q r is) (moves.turned o.state r) (makes.state _ o refl h)

  module _ (rules : profile_of s ≡ Hashicorp) where
    forgets : (t : State) (q : ℕ) (held : Claim × ℕ) → get t.table q ≡ Some held → is_confirm held.0 ≡ true → R t → R (without_entry q t)
    forgets t q held here dead r = moves.forgotten t q held rules here dead r

    by_forgotten : (count : ℕ) (o : Effect) → R o.state → P o → P (all_forgotten s k count o)
    unfolding all_forgotten
    by_forgotten zero o r h = h
    by_forgotten (suc count) o r h = by_forgotten_if count _ (all_forgotten s k count o) refl (on_forgotten s k Named R news moves forgets count o r) (by_forgotten count o r h)

    by_round_ended : (o : Effect) → R o.state → P o → P (round_ended s k o)
    unfolding round_ended
    by_round_ended o r h = by_either (o.state.rota.mark == length o.state.rota.members) (all_forgotten s k (member_count s) o) o (λ _. by_forgotten (member_count s) o r h) (λ _. h)

    by_next_single : (o : Effect) → R o.state → P o → P (next_single_probed s k o)
    unfolding next_single_probed
    by_next_single o r h = by_turn_probed (round_ended s k o) (on_round_ended s k Named R news moves forgets o r) (by_round_ended o r h)

    by_if_waiting : (o : Effect) → R o.state → P o → P (next_if_waiting s k o)
    by_if_waiting o r h = by_either o.state.waits _ o (λ _. by_next_single _ (moves.waiting o.state false r) (makes.state _ o refl h)) (λ _. h)

    by_beat_taken : (o : Effect) → R o.state → P o → P (single_beat_taken s k o)
    by_beat_taken o r h =
        let free : Effect = on_state (λ t. record t { waits = false }) o in
        let there : R free.state = moves.waiting o.state false r in
        by_either (has_time k.at o.state.probe) _ _ (λ _. makes.state _ o refl h)
        (λ _. by_next_single _ (on_settled s k Named R news moves o.state.probe free there) (by_settled o.state.probe free refl there (makes.state _ o refl h)))

    by_single_beaten : (o : Effect) → R o.state → P o → P (single_beaten s k o)
    unfolding single_beaten
    by_single_beaten o r h = by_beat_taken _ (on_event s k Named R news _ k.to PeriodTimer o r) (makes.event _ k.to PeriodTimer o (times.beat o.state.beat) moves.own tt h)

    by_single_deadline : (seq : ℕ) (o : Effect) → R o.state → P o → P (single_deadline_over s k seq o)
    unfolding single_deadline_over
    by_single_deadline seq o r h =
        by_either (is_under_way seq o.state.probe) _ o
        (λ _. by_if_waiting _ (on_settled s k Named R news moves o.state.probe o r) (by_settled o.state.probe o refl r h)) (λ _. h)

    by_single_answered : (seq : ℕ) (o : Effect) → R o.state → P o → P (single_answered s k seq o)
    unfolding single_answered
    by_single_answered seq o r h =
        let none = record o.state { probe = None } in
        let mended = moves.mended none (ended o r) in
        by_either (is_under_way seq o.state.probe) _ o
        (λ _. by_if_waiting _ (on_health s k Named R news moves (lowered o.state.health) (on_state (λ t. record t { probe = None }) o) mended)
        (by_health (lowered o.state.health) _ (ended o r) mended (makes.state none o refl h))) (λ _. h)

    by_help_given : (seq target : ℕ) (o : Effect) → Named k.from → Named target → R o.state → P o → P (help_given s k seq target o)
    by_help_given seq target o sender named r h = by_relay seq _ sender (by_plain_ping target k.from seq o named sender r h)

    by_passed_ack : (initiator seq : ℕ) (o : Effect) → Named initiator → R o.state → P o → P (ack_passed_on s k initiator seq o)
    by_passed_ack initiator seq o begun r h =
        by_either (set.contains o.state.relays (initiator, seq)) _ o
        (λ _. by_ack initiator initiator seq _ begun begun (moves.relay_removed o.state (initiator, seq) r) (makes.state _ o refl h)) (λ _. h)

    by_single_ack_taken : (initiator seq : ℕ) (o : Effect) → Named initiator → R o.state → P o → P (single_ack_taken s k initiator seq o)
    by_single_ack_taken initiator seq o begun r h =
        by_either (nat_eq initiator k.to) _ _ (λ _. by_single_answered seq o r h) (λ _. by_passed_ack initiator seq o begun r h)

    by_help_over : (initiator seq : ℕ) (o : Effect) → Named initiator → R o.state → P o → P (help_over s k initiator seq o)
    unfolding help_over
    by_help_over initiator seq o begun r h = by_either s.lifeguard.probe _ _ (λ on. by_nack_due initiator seq o begun (λ _. on) r h) (λ _. makes.state _ o refl h)

    by_single : (content : EventKind) (o : Effect) → Named k.from → NamesOnly Named SomeLeave content → R o.state → P o → P (single_handled s k content o)
    unfolding single_handled ping_answered help_asked_for single_ack_heard
    by_single PeriodTimer o sender named r h = by_single_beaten o r h
    by_single (DeadlineTimer seq) o sender named r h = by_single_deadline seq o r h
    by_single (Ping initiator seq updates) o sender named r h =
        by_all Aloud updates _ named.1 (on_pings_ack s k Named R news moves k.from initiator seq o r) (by_pings_ack k.from initiator seq o sender named.0 r h)
    by_single (PingReq target seq updates) o sender named r h =
        by_all Aloud updates _ named.1 (on_help_given s k Named R news moves rules seq target o (always_relays s rules) r) (by_help_given seq target o sender named.0 r h)
    by_single (Ack initiator seq updates) o sender named r h =
        by_all Aloud updates _ named.1 (on_single_ack_taken s k Named R news moves rules initiator seq o r) (by_single_ack_taken initiator seq o named.0 r h)
    by_single (NackTimer initiator seq) o sender named r h = by_help_over initiator seq o named r h
    by_single Start o sender named r h = by_timed Start o sender named tt r h
    by_single Crash o sender named r h = by_timed Crash o sender named tt r h
    by_single Leave o sender named r h = by_timed Leave o sender named tt r h
    by_single JoinTimer o sender named r h = by_timed JoinTimer o sender named tt r h
    by_single (TimeoutTimer seq) o sender named r h = by_timed (TimeoutTimer seq) o sender named tt r h
    by_single (SuspicionTimer subject) o sender named r h = by_timed (SuspicionTimer subject) o sender named tt r h
    by_single Join o sender named r h = by_timed Join o sender named tt r h
    by_single (Welcome entries) o sender named r h = by_timed (Welcome entries) o sender named tt r h
    by_single (Nack seq) o sender named r h = by_timed (Nack seq) o sender named tt r h
    by_single Bye o sender named r h = by_timed Bye o sender named tt r h
    by_single GossipTimer o sender named r h = by_timed GossipTimer o sender named tt r h
    by_single PushTimer o sender named r h = by_timed PushTimer o sender named tt r h
    by_single (Call seq) o sender named r h = by_timed (Call seq) o sender named tt r h
    by_single (Answer seq) o sender named r h = by_timed (Answer seq) o sender named tt r h
    by_single (Gossip updates) o sender named r h = by_timed (Gossip updates) o sender named tt r h
    by_single (Push entries) o sender named r h = by_timed (Push entries) o sender named tt r h
    by_single (Pull entries) o sender named r h = by_timed (Pull entries) o sender named tt r h
    by_single (Restart contact) o sender named r h = by_timed (Restart contact) o sender named tt r h
    by_single SettingTimer o sender named r h = by_timed SettingTimer o sender named tt r h
    by_single (ConnectedTimer to) o sender named r h = by_timed (ConnectedTimer to) o sender named tt r h
    by_single ReconnectTimer o sender named r h = by_timed ReconnectTimer o sender named tt r h
    by_single ExitTimer o sender named r h = by_timed ExitTimer o sender named tt r h

  -- by the older rules a nack timer may send in any case
  may_send : (content : EventKind) → keeps_relays (profile_of s) ≡ false → MaySendWhileRunning s content
  may_send (NackTimer initiator seq) old = λ always. absurd (false≢true (sym old ∙ always))
  may_send Start old = tt
  may_send Crash old = tt
  may_send Leave old = tt
  may_send JoinTimer old = tt
  may_send PeriodTimer old = tt
  may_send (TimeoutTimer seq) old = tt
  may_send (SuspicionTimer subject) old = tt
  may_send Join old = tt
  may_send (Welcome entries) old = tt
  may_send (Ping initiator seq updates) old = tt
  may_send (PingReq target seq updates) old = tt
  may_send (Ack initiator seq updates) old = tt
  may_send (Nack seq) old = tt
  may_send Bye old = tt
  may_send (DeadlineTimer seq) old = tt
  may_send GossipTimer old = tt
  may_send PushTimer old = tt
  may_send (Call seq) old = tt
  may_send (Answer seq) old = tt
  may_send (Gossip updates) old = tt
  may_send (Push entries) old = tt
  may_send (Pull entries) old = tt
  may_send (Restart contact) old = tt
  may_send SettingTimer old = tt
  may_send (ConnectedTimer to) old = tt
  may_send ReconnectTimer old = tt
  may_send ExitTimer old = tt

  -- ---- processes

  by_dialed : (tells : What) (to : ℕ) (there : Option ℕ) (o : Effect) → ((at : ℕ) → there ≡ Some at → Timed at) → Tells tells → Named to → P o → P (dialed s k tells to there o)
  by_dialed tells to None o timed told named h = makes.row tells (Some to) 0 true o told named h
  by_dialed tells to (Some at) o timed told named h =
      makes.event at k.to (ConnectedTimer to) (with_row k tells (Some to) 0 false o) (timed at refl) moves.own named (makes.row tells (Some to) 0 false o told named h)

  by_push_dialed : (to : ℕ) (there : Option ℕ) (o : Effect) → ((at : ℕ) → there ≡ Some at → Timed at) → Named to → P o → P (push_dialed s k to there o)
  by_push_dialed to None o timed named h = makes.row what.Push (Some to) 0 true o (may.plain what.Push tt) named h
  by_push_dialed to (Some at) o timed named h = makes.event at k.to (ConnectedTimer to) o (timed at refl) moves.own named h

  by_contact_asked : (contact : Option ℕ) (o : Effect) → IfSome contact Named → R o.state → P o → P (contact_asked s k contact o)
  unfolding contact_dialed
  by_contact_asked None o named r h = h
  by_contact_asked (Some contact) o named r h =
      makes.event _ k.to JoinTimer _ (times.retry o.state contact r) moves.own tt
      (by_dialed what.Join contact (dial_drawn s k contact o.state).0 _ (λ at is. times.dial o.state contact at r is) (may.plain what.Join tt) named (makes.state _ o refl h))

  by_contact_reached : (entries : List Update) (o : Effect) → Named k.from → P o → P (contact_reached k entries o)
  by_contact_reached entries o sender h =
      by_either (is_asked k.from o.state.life.contact) _ o (λ _. makes.row what.Joined (Some k.from) _ false _ (may.plain what.Joined tt) sender (makes.state _ o refl h)) (λ _. h)

  by_setting_set : (gossip : Option settings.Gossip) (o : Effect) → s.gossip ≡ gossip → R o.state → P o → P (setting_set s k gossip o)
  by_setting_set None o is r h = h
  by_setting_set (Some gossip) o is r h = by_either (nat_eq gossip.push 0) o _ (λ _. h) (λ some. by_timer _ SettingTimer _ (times.setting_timer gossip is some o.state r) tt (makes.state _ o refl h))

  by_reconnect_set : (serf : Option Serf) (o : Effect) → s.serf ≡ serf → P o → P (reconnect_set s k serf o)
  by_reconnect_set None o is h = h
  by_reconnect_set (Some serf) o is h = by_timer serf.reconnect ReconnectTimer o (times.try_timer serf is) tt h

  by_own_beats : (o : Effect) → P o → P (own_beats_set s k o)
  by_own_beats o h = by_timer s.swim.period PeriodTimer _ times.join_timer tt (makes.state _ o refl h)

  by_alone : (contact : Option ℕ) (o : Effect) → IfSome contact Named → R (own_beats_set s k o).state → P o → P (alone_begun s k contact o)
  unfolding alone_begun
  by_alone contact o named r h =
      let beaten = own_beats_set s k o in
      let set = setting_set s k s.gossip beaten in
      let there = on_setting_set s k Named R news moves s.gossip beaten r in
      by_contact_asked contact (reconnect_set s k s.serf set) named (on_reconnect_set s k Named R news moves s.serf set there)
      (by_reconnect_set s.serf set refl (by_setting_set s.gossip beaten refl r (by_own_beats o h)))

  by_pushes_set : (gossip : Option settings.Gossip) (o : Effect) → s.gossip ≡ gossip → R o.state → P o → P (pushes_set s k gossip o)
  by_pushes_set None o is r h = h
  by_pushes_set (Some gossip) o is r h = by_either (nat_eq gossip.push 0) o _ (λ _. h) (λ _. by_timer _ PushTimer o (times.push_timer gossip is o.state r) tt h)

  by_founders : (serf : Option Serf) (t : State) (o : Effect) → s.serf ≡ serf → o.state.beat ≡ k.at + (1 + (below_of t.words s.swim.spread).0) → R t → R o.state → P o → P (founders_reconnect_set s k serf o)
  by_founders None t o is beat r r' h = h
  by_founders (Some serf) t o is beat r r' h =
      makes.event _ k.to ReconnectTimer _ (subst (λ b. Timed (b + (below_of o.state.words serf.reconnect).0)) (sym beat) (times.founders_try serf is t o.state r r')) moves.own tt (makes.state _ o refl h)

  some_named : (o : Option ℕ) → ((c : ℕ) → o ≡ Some c → Named c) → IfSome o Named
  some_named None h = tt
  some_named (Some c) h = h c refl

  by_process_started : (o : Effect) → R (at_once s k o.state) → R (at_alone s k o.state) → P o → P (process_started s k o)
  unfolding process_started with_row
  by_process_started o once alone h =
      let told = with_row k what.Start None 0 false o in
      let row = makes.row what.Start None 0 false o (may.plain what.Start tt) tt h in
      by_either (nat_eq (start_of s k.to) 0) (founder_begun s k told) (latecomer_begun s k (contact_of s k.to) told)
      (λ _. by_founders s.serf (first_round (profile_of s) (at_once s k o.state)) (began s k told) refl (began_beat s k told) (on_first_round s k Named R news moves (profile_of s) (at_once s k o.state) once)
      (on_began s k Named R news moves told once) (by_began told once row))
      (λ _. by_alone (contact_of s k.to) (on_state (at_alone s k) told) (some_named (contact_of s k.to) carries.contact) (on_own_beats s k Named R news moves (on_state (at_alone s k) told) alone) (makes.state (at_alone s k o.state) told refl row))

  by_restarted : (contact : Option ℕ) (o : Effect) → profile_of s ≡ Hashicorp → IfSome contact Named → R o.state → P o → P (restarted s k contact o)
  unfolding restarted with_timer with_event with_row
  by_restarted contact o rules named r h =
      by_alone contact (with_row k what.Restart None 0 false (on_state (reborn s k.to contact) o)) named (moves.again o.state contact rules named r)
      (makes.row what.Restart None 0 false (on_state (reborn s k.to contact) o) (may.plain what.Restart tt) tt (makes.state (reborn s k.to contact o.state) o refl h))

  -- ---- pushes over connections

  by_push_opened_to : (gossip : settings.Gossip) (v : State) (chosen : List ℕ) (o : Effect) → s.gossip ≡ Some gossip → AllByRecursion Named chosen → R v → R o.state → P o
      → P (push_opened_to s k (push_period gossip.push (size_by (profile_of s) v.table)) chosen o)
  unfolding push_opened
  by_push_opened_to gossip v [] o is named r r' h = by_timer _ PushTimer o (times.push_timer gossip is v r) tt h
  by_push_opened_to gossip v (to ∷ others) o is named r r' h =
      makes.event _ k.to PushTimer _ (times.next_push gossip is o.state v to r' r) moves.own tt
      (by_push_dialed to (dial_drawn s k to o.state).0 _ (λ at there. times.dial o.state to at r' there) named.0 (makes.state _ o refl h))

  by_dialed_push_due : (gossip : Option settings.Gossip) (o : Effect) → s.gossip ≡ gossip → R o.state → P o → P (dialed_push_due s k gossip o)
  unfolding dialed_push
  by_dialed_push_due None o is r h = h
  by_dialed_push_due (Some gossip) o is r h =
      by_either (nat_eq gossip.push 0) o _ (λ _. h)
      (λ _. by_push_opened_to gossip o.state _ _ is (carries.sample o.state (AliveBut k.to) 1 r) r (moves.drawn o.state _ (sample_rest o.state.words 1 _) r) (makes.state _ o refl h))

  -- ---- tables that are merged

  by_entry_merged : (u : Update) (o : Effect) → Named u.subject → R o.state → P o → P (entry_merged s k u o)
  by_entry_merged u o named r h =
      let heard = applied s Aloud k (entry_claim k.to u) o in
      makes.state (leave_noted s.serf k.to u heard.state) heard (noted_number s.serf k.to u heard.state) (by_applied Aloud (entry_claim k.to u) o (entry_named s k Named R news moves u named) r h)

  by_table_merged : (us : List Update) (o : Effect) → AllNamed Named us → R o.state → P o → P (table_merged s k us o)
  unfolding table_merged
  by_table_merged [] o named r h = h
  by_table_merged (u ∷ us) o named r h = by_table_merged us (entry_merged s k u o) named.1 (on_entry_merged s k Named R news moves u o named.0 r) (by_entry_merged u o named.0 r h)

  by_push_merged : (us : List Update) (o : Effect) → Named k.from → AllNamed Named us → R o.state → P o → P (push_merged s k us o)
  unfolding push_merged
  by_push_merged us o sender named r h = by_table_merged us _ named (on_pull s k Named R news moves k.from o r) (by_pull k.from o sender r h)

  -- ---- leaves of processes

  by_lingered : (o : Effect) → P o → P (lingered s k o)
  by_lingered o h = by_timer _ ExitTimer _ times.exit_timer tt (makes.state _ o refl h)

  by_left_said : (o : Effect) → P o → P (left_said s k o)
  unfolding left_said
  by_left_said o h =
      let told = with_row k what.Left (Some k.to) o.state.incarnation false (on_state (with_leaving Says) o) in
      let row : P told = makes.row what.Left (Some k.to) o.state.incarnation false (on_state (with_leaving Says) o) (may.plain what.Left tt) moves.own (makes.state (with_leaving Says o.state) o refl h) in
      by_either (is_anybody_up told.state) (with_put s k (own_left k.to told.state.incarnation) told) (lingered s k told) (λ _. by_put (own_left k.to told.state.incarnation) told row) (λ _. by_lingered told row)

  by_leave_begun : SomeLeave → (o : Effect) → P o → P (leave_begun s k o)
  unfolding leave_begun
  by_leave_begun some o h =
      let told = with_row k what.Leave None 0 false o in
      let row : P told = makes.row what.Leave None 0 false o (may.plain what.Leave some) tt h in
      by_either (does_stay o.state.life.leaving) (leave_told s k told) o
      (λ _. by_either (is_some s.serf && is_anybody_up told.state) _ (left_said s k told) (λ _. by_gossip_set s.gossip _ refl (makes.state _ told refl row)) (λ _. by_left_said told row)) (λ _. h)

  by_leave_gone_on : (o : Effect) → P o → P (leave_gone_on s k o)
  unfolding leave_gone_on
  by_leave_gone_on o h =
      let sent = intent_sent s k o in
      let there : P sent = by_either (does_intend o.state.life.leaving && not (contains_key o.state.life.intents k.to)) (left_said s k o) o (λ _. by_left_said o h) (λ _. h) in
      by_either (is_running o.state.phase) (left_sent s k sent) o
      (λ _. by_either (does_say sent.state.life.leaving && not (is_claim_held s.queue k.to sent.state)) (lingered s k sent) sent (λ _. by_lingered sent there) (λ _. there)) (λ _. h)

  by_exited : (o : Effect) → P o → P (exited k o)
  unfolding exited
  by_exited o h = makes.state _ _ refl (makes.row what.Exit None 0 false o (may.plain what.Exit tt) tt h)

  -- ---- those that failed

  by_failed_dialed : (serf : Serf) (to : ℕ) (o : Effect) → s.serf ≡ Some serf → Named to → R o.state → P o → P (failed_dialed s k serf to o)
  unfolding failed_dialed
  by_failed_dialed serf to o is named r h =
      makes.event _ k.to ReconnectTimer _ (times.next_try serf is o.state to r) moves.own tt
      (by_dialed what.Reconnect to (dial_drawn s k to o.state).0 _ (λ at there. times.dial o.state to at r there) (may.plain what.Reconnect tt) named (makes.state _ o refl h))

  by_any_tried : (serf : Serf) (failed : List ℕ) (o : Effect) → s.serf ≡ Some serf → failed_among (member_count s) o.state.life.regards ≡ failed → R o.state → P o → P (any_tried s k serf failed o)
  by_any_tried serf [] o is are r h = makes.event _ k.to ReconnectTimer o (times.try_timer serf is) moves.own tt h
  by_any_tried serf (m ∷ failed) o is are r h =
      let live = live_count o.state.table in
      let chance = below_of o.state.words live in
      let drawn = on_state (with_words chance.1) o in
      let place = below_of drawn.state.words (length (m ∷ failed)) in
      let there : R drawn.state = moves.drawn o.state chance.1 (below_rest o.state.words live) r in
      let made : P drawn = makes.state (with_words chance.1 o.state) o refl h in
      by_either (nat_lt chance.0 (length (m ∷ failed))) (one_dialed s k serf (m ∷ failed) drawn) (next_try_set s k serf k.at drawn)
      (λ _. by_failed_dialed serf (slice_index (m ∷ failed) place.0) (on_state (with_words place.1) drawn) is (carries.failed o.state m place.0 failed r are)
      (moves.drawn drawn.state place.1 (below_rest drawn.state.words (length (m ∷ failed))) there) (makes.state (with_words place.1 drawn.state) drawn refl made))
      (λ _. makes.event _ k.to ReconnectTimer drawn (times.try_timer serf is) moves.own tt made)

  by_reconnect_due : (serf : Option Serf) (o : Effect) → s.serf ≡ serf → R o.state → P o → P (reconnect_due s k serf o)
  unfolding reconnect_due
  by_reconnect_due None o is r h = h
  by_reconnect_due (Some serf) o is r h =
      let regards : Regards = λ m. reaped k.at serf.reap (o.state.life.regards m) in
      by_any_tried serf _ (on_state (failures_reaped k.at serf.reap) o) is refl (news.regarding o.state regards r) (makes.state (failures_reaped k.at serf.reap o.state) o refl h)

  -- ---- gossip of claims and intents

  by_whole_gossip : (gossip : Option settings.Gossip) (o : Effect) → s.gossip ≡ gossip → R o.state → P o → P (whole_gossip_due s k gossip o)
  by_whole_gossip None o is r h = h
  by_whole_gossip (Some gossip) o is r h =
      let unset = on_state (λ t. record t { gossips = false }) o in
      let free : P unset = makes.state (record o.state { gossips = false }) o refl h in
      let spread = gossip_spread s k gossip unset in
      let told : P spread = by_spread gossip unset (news.gossiping o.state false r) free in
      by_either (is_all_told s unset.state) unset (round_set_again s k gossip spread) (λ _. free)
      (λ _. by_either (is_all_told s spread.state) spread (next_round_set s k gossip spread) (λ _. told)
      (λ _. makes.event _ k.to GossipTimer (on_state (λ t. record t { gossips = true }) spread) (times.next_round gossip is (spread.state.beat - 1)) moves.own tt (makes.state _ spread refl told)))

  -- ---- by memberlist 0.5.0's and Serf's rules

  by_process : (content : EventKind) (o : Effect) → profile_of s ≡ Hashicorp → Named k.from → NamesOnly Named SomeLeave content → R o.state → P o → P (process_handled s k content o)
  unfolding process_handled
  by_process (Restart contact) o rules sender named r h = by_restarted contact o rules named r h
  by_process Leave o rules sender named r h = by_leave_begun named o h
  by_process JoinTimer o rules sender named r h = by_contact_asked o.state.life.contact o (some_named o.state.life.contact (λ c is. moves.asked o.state c r is)) r h
  by_process SettingTimer o rules sender named r h = by_pushes_set s.gossip o refl r h
  by_process (ConnectedTimer to) o rules sender named r h = by_push_sent to o named r h
  by_process PushTimer o rules sender named r h = by_dialed_push_due s.gossip o refl r h
  by_process (Push entries) o rules sender named r h = by_push_merged entries o sender named r h
  by_process (Pull entries) o rules sender named r h = by_table_merged entries _ named (on_contact_reached s k Named R news moves entries o r) (by_contact_reached entries o sender h)
  by_process GossipTimer o rules sender named r h = by_whole_gossip s.gossip o refl r h
  by_process ReconnectTimer o rules sender named r h = by_reconnect_due s.serf o refl r h
  by_process ExitTimer o rules sender named r h = by_exited o h
  by_process Join o rules sender named r h = h
  by_process (Welcome entries) o rules sender named r h = h
  by_process Bye o rules sender named r h = h
  by_process content o rules sender named r h = by_single rules content o sender named r h

  by_start_handled : (content : EventKind) (o : Effect) → R (at_once s k o.state) → R (at_alone s k o.state) → P o → P (start_handled s k content o)
  by_start_handled Start o once alone h = by_process_started o once alone h
  by_start_handled _ o once alone h = h

  by_restart_handled : (content : EventKind) (o : Effect) → profile_of s ≡ Hashicorp → NamesOnly Named SomeLeave content → R o.state → P o → P (restart_handled s k content o)
  by_restart_handled (Restart contact) o rules named r h = by_restarted contact o rules named r h
  by_restart_handled _ o rules named r h = h

  downs : ¬ (Down ≡ Waiting)
  downs is = absurd (let e = is in cc)

  by_phases : (content : EventKind) (phase : Phase) (o : Effect) → profile_of s ≡ Hashicorp → Named k.from → NamesOnly Named SomeLeave content → (¬ (phase ≡ Waiting) → R o.state)
      → (phase ≡ Waiting → R (at_once s k o.state)) → (phase ≡ Waiting → R (at_alone s k o.state)) → P o → P (phase_handled phase s k content o)
  by_phases content Waiting o rules sender named r once alone h = by_start_handled content o (once refl) (alone refl) h
  by_phases content Joining o rules sender named r once alone h = h
  by_phases content Running o rules sender named r once alone h = by_leave_gone_on _ (by_process content o rules sender named (r runs) h)
  by_phases content Down o rules sender named r once alone h = by_restart_handled content o rules named (r downs) h

  by_lived : (content : EventKind) (phase : Phase) (o : Effect) → profile_of s ≡ Hashicorp → Named k.from → NamesOnly Named SomeLeave content → (¬ (phase ≡ Waiting) → R o.state)
      → (phase ≡ Waiting → R (at_once s k o.state)) → (phase ≡ Waiting → R (at_alone s k o.state)) → P o → P (process_lived phase s k content o)
  unfolding process_lived
  by_lived content phase o rules sender named r once alone h =
      by_either (is_of_former_life k content o.state.life.birth) o (phase_handled phase s k content o) (λ _. h) (λ _. by_phases content phase o rules sender named r once alone h)

  by_by : (content : EventKind) (phase : Phase) (profile : Profile) (o : Effect) → profile_of s ≡ profile → Named k.from → NamesOnly Named SomeLeave content → (¬ (phase ≡ Waiting) → R o.state)
      → (phase ≡ Waiting → R (at_once s k o.state)) → (phase ≡ Waiting → R (at_late o.state)) → (phase ≡ Waiting → profile_of s ≡ Hashicorp → R (at_alone s k o.state)) → P o → P (handled_by phase profile s k content o)
  by_by content phase Hashicorp o rules sender named r once late alone h = by_lived content phase o rules sender named r once (λ waits. alone waits rules) h
  by_by content Running Memberlist o rules sender named r once late alone h = by_timed content o sender named (may_send content (ap keeps_relays rules)) (r runs) h
  by_by content Waiting Memberlist o rules sender named r once late alone h = by_handled content Waiting o sender named tt r once late h
  by_by content Joining Memberlist o rules sender named r once late alone h = by_handled content Joining o sender named tt r once late h
  by_by content Down Memberlist o rules sender named r once late alone h = by_handled content Down o sender named tt r once late h
  by_by content Running Papers o rules sender named r once late alone h = by_handled content Running o sender named (may_send content (ap keeps_relays rules)) r once late h
  by_by content Waiting Papers o rules sender named r once late alone h = by_handled content Waiting o sender named tt r once late h
  by_by content Joining Papers o rules sender named r once late alone h = by_handled content Joining o sender named tt r once late h
  by_by content Down Papers o rules sender named r once late alone h = by_handled content Down o sender named tt r once late h

  -- Of a member that waits the fact is needed where it starts alone.
  pub by_step : (content : EventKind) (t : State) → Named k.from → NamesOnly Named SomeLeave content → (¬ (t.phase ≡ Waiting) → R t)
      → (t.phase ≡ Waiting → R (at_once s k t)) → (t.phase ≡ Waiting → R (at_late t)) → (t.phase ≡ Waiting → profile_of s ≡ Hashicorp → R (at_alone s k t)) → P (unchanged t) → P (step s k content t)
  unfolding step
  by_step content t sender named r once late alone h = by_by content t.phase (profile_of s) (unchanged t) refl sender named r once late alone h
