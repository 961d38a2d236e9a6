-- The events and the rows of a step, part by part.
use Rattle.std.proofs.Common.{◌≡◌, ◌≢◌, ℕ, zero, suc, ◌+◌, ◌-◌, ◌*◌, ◌%◌, ◌^◌, ◌<◌, ◌≤◌, Bool, true, false, cond, not, max, min, nat_eq, nat_lt, nat_le, ◌==◌, ◌&&◌, List, [], ◌∷◌, ◌++◌, map, length, Option, Some, None, ap, ◌∙◌, sym, subst, refl, arith}
use Rattle.std.specs.Option.{option_map, is_some, IfSome}
use Rattle.std.specs.List.{AllByRecursion, range_with_len}
use Rattle.std.specs.FinMap.{get, contains_key}
use Rattle.std.specs.FinSet as set
use Rattle.std.proofs.Math.Nat.{mod-lt}
use Rattle.std.proofs.lemmas.Bool.{eqb-false, ltb-true}
use Rattle.std.proofs.lemmas.List.{map-append}
use Rattle.std.proofs.lemmas.List.FromFn.{map-range_with_len_more}
use Rattle.base.specs.declared.key.Key.{Key}
use Rattle.base.specs.Run.{MakesLater}
use Rattle.base.specs.Rising.{CountsRows, UsesNumbers}
use Rattle.base.proofs.Rising.{all_append, all_weaker, rising_append}
use Rattle.base.specs.Beats.{next_in_step}
use Rattle.base.specs.declared.profile.Profile.{Profile}
use Rattle.base.specs.declared.profile.Profile.TheVariants.{Papers, Memberlist, Hashicorp}
use Rattle.scenario.specs.Setup.{Setup, IsSound, IsSoundGossip, IsSoundSerf, member_count, link_between, contact_of, extra_of, start_of, is_cut, awake}
use Rattle.scenario.specs.Profile.{profile_of}
use Rattle.scenario.specs.declared.settings.Gossip as settings
use Rattle.scenario.specs.declared.settings.Queue.{Queue}
use Rattle.scenario.specs.declared.settings.Serf.{Serf}
use Rattle.scenario.proofs.Pauses.{is_awake_at}
use Rattle.trace.specs.declared.row.Row.{Row}
use Rattle.trace.specs.declared.row.What.{What}
use Rattle.streams.specs.Draw.{Words, below_of, lost_of}
use Rattle.links.specs.Arrival.{uncut_arrival_of, arrival_of}
use Rattle.links.specs.Trips.{uncut_try_of, try_of, or_else, tried_of, trip_of, and_then, comes_of, call_of, answer_of, kept_arrival_of}
use Rattle.links.proofs.Arrivals.{whether_cut}
use Rattle.incarnation.specs.declared.Claim.{Claim}
use Rattle.incarnation.specs.declared.Claim.TheVariants.{Alive, Suspect, Confirm, Left, Intent}
use Rattle.incarnation.specs.declared.Update.{Update}
use Rattle.lifeguard.specs.declared.probe.Probe.{Probe}
use Rattle.lifeguard.specs.Health.{LocalHealth, scaled}
use Rattle.suspicion.specs.Ranges.{AreSound}
use Rattle.suspicion.specs.Settings.{terms_of}
use Rattle.suspicion.specs.Suspicions.{HeldSuspicion, accused_of, answer_of as answer_to, is_due}
use Rattle.probing.specs.ProbeOrder.{round_over, next_of}
use Rattle.suspicion.proofs.Timeouts.{min-le-timeout}
use Rattle.member.specs.declared.member.Phase.{Phase}
use Rattle.member.specs.declared.member.Phase.TheVariants.{Waiting, Joining, Running, Down}
use Rattle.member.specs.declared.event_kind.EventKind.{EventKind}
use Rattle.member.specs.declared.event_kind.EventKind.TheVariants.{Start, Crash, Leave, Restart, SettingTimer, ConnectedTimer, ReconnectTimer, ExitTimer, JoinTimer, PeriodTimer, TimeoutTimer, NackTimer, SuspicionTimer, Join, Welcome, Ping, PingReq, Ack, Nack, Bye, DeadlineTimer, GossipTimer, PushTimer, Call, Answer, Gossip, Push, Pull}
use Rattle.member.specs.declared.announce.Announce.{Announce}
use Rattle.member.specs.declared.announce.Announce.TheVariants.{Aloud, Quietly}
use Rattle.member.specs.Announce.{is_aloud}
use Rattle.member.specs.State.{State, is_probed}
use Rattle.membership.specs.Table.{is_alive, is_confirm, is_intent, does_override, size_by, live_count, all_alive}
use Rattle.lives.specs.Lives.{does_stay, does_intend, does_say}
use Rattle.lives.specs.Regards.{failed_among}
use Rattle.lives.specs.declared.leaving.Leaving.TheVariants.{Says}
use Rattle.trace.specs.declared.row.What.TheVariants as what
use Rattle.links.specs.Dials.{up_to, dial_of}
use Rattle.member.specs.declared.riding.Bearer.{Bearer}
use Rattle.member.specs.declared.riding.Bearer.TheVariants as bearer
use Rattle.member.specs.Blocks.{Way, departs_at, departs_by, on_its_way}
use Rattle.member.specs.Riding.{room_of, without_claims, without_both, without_riding_by, put_up, is_claim_held, is_all_told}
use Rattle.member.specs.Intents.{regards_kept, is_known_intent}
use Rattle.member.specs.Connections.{with_words, dial_drawn, dial_done, dialed, push_dialed}
use Rattle.member.specs.Beginnings.{contact_dialed, contact_asked, is_asked, contact_reached, setting_set, reconnect_set, own_beats_set, alone_begun, pushes_set, founders_reconnect_set, process_started, reborn, restarted}
use Rattle.member.specs.DialedPushes.{push_opened, push_opened_to, dialed_push, dialed_push_due}
use Rattle.member.specs.Merges.{is_left_and_not_up, leave_noted, entry_claim, entry_merged, table_merged, push_merged}
use Rattle.member.specs.Leaves.{is_anybody_up, with_leaving, own_left, linger_of, lingered, left_said, leave_told, leave_begun, intent_sent, is_running, leave_gone_on, exited}
use Rattle.member.specs.Reconnects.{failures_reaped, next_try_set, failed_dialed, any_tried, reconnect_due}
use Rattle.member.specs.WholeGossip.{whole_gossip_due}
use Rattle.member.specs.Processes.{is_of_former_life, pull_merged, start_handled, restart_handled}
use Rattle.member.proofs.Ways.{free_later, departs_later, through_later, after, choice_later}
use Rattle.member.specs.Effects.{Effect, on_state, unchanged, with_row, with_number, with_event, with_timer}
use Rattle.member.specs.Send.{posted, sent, sent_off, sent_to_each, gossip_sent, call_sent, answer_sent, push_sent, pull_sent, ping_sent, ping_req_sent, ack_sent, nack_sent, join_sent, join_sent_to, welcome_sent, bye_sent, riding, without_riding, pings_ack_sent}
use Rattle.member.specs.Apply.{gossip_set, with_put, passed_on, with_health, refuted, heard_dead, is_own_death, is_refuted, own_applied, with_told, with_claim, claim_kept, with_turn_of, newcomer_kept, claim_kept_by, without_suspicion, alive_heard, suspect_heard, death_kept, confirm_heard, left_heard, claim_heard, news_heard, accusation_counted, accusation_heard, is_repeated, is_heeded, other_applied, claim_applied, intent_applied, applied, all_applied}
use Rattle.suspicion.specs.Suspicions.{is_over_of}
use Rattle.member.specs.LateAccusations.{death_of, accusation_answered, prompt_accusation_heard, accusation_by}
use Rattle.member.specs.LoneBuddy.{lone_buddy_of, plain_ping_sent, ping_with_lone, probe_ping_sent}
use Rattle.member.specs.SingleBeat.{is_in_step, deadline_between_beats, single_probe_begun, blocked_probe_begun, departing_probe_begun, single_target_probed, turn_probed, next_single_probed, next_if_waiting, single_beat_taken, single_beaten, single_deadline_over, single_answered}
use Rattle.member.specs.LateAcks.{ping_answered, help_asked_for, ack_passed_on, single_ack_heard, help_over}
use Rattle.member.specs.Step.{process_handled, phase_handled, process_lived, single_handled, push_begun, even_push_begun, push_begun_by, first_push_set, push_period, doublings_to, pushed, first_period_set, suspected_at, timed_probe_failed, probe_settled, needs_timer, deadline_set, timed_probe_begun, timed_target_probed, next_timed_probed, waiting_probed, has_time, period_beaten, is_under_way, probed_in_turn, deadline_over, timed_answered, timed_ack_heard, sampled_help, called, timed_out_timed, answer_heard, is_told_out, gossip_spread, gossip_set_again, gossip_due, merged, push_due, push_heard, timed_handled, handled_by, first_others, began, join_asked, joining_begun, started, crashed, join_handled, joined, suspected, probe_failed, probe_ended, probe_begun, target_probed, next_probed, period_begun, help_asked, timed_out, nack_heard, ping_heard, ping_req_heard, ack_taken, ack_heard, nack_due, confirmed, suspicion_over, withdrawn, byes_said, departed, plain_handled, handled, step}
use Rattle.member.specs.FirstRounds.{first_round}
use Rattle.member.specs.Forgetting.{kept_for, is_long_dead, forgotten_if, all_forgotten, round_ended}
use Rattle.member.specs.Places.{place_of}
use Rattle.member.specs.Fair.{IsWellMade}

arrives_later : (b : Bool) (rest last : Words) (at d : ℕ) → d ≤ at → IfSome (cond {A = Option ℕ × Words} b (None, rest) (Some at, last)).0 (λ a. d ≤ a)
arrives_later true rest last at d h = tt
arrives_later false rest last at d h = h

uncut_later : (s : Setup) (from to now : ℕ) (words : Words) → IfSome (uncut_arrival_of s from to now words).0 (λ at. now + (link_between s from to).delay ≤ at)
unfolding uncut_arrival_of
uncut_later s from to now words =
    let link = link_between s from to in
    let lost = lost_of words link.loss in
    let jitter = below_of lost.1 (link.jitter + 1) in
    let coming = now + link.delay + jitter.0 + extra_of s from now in
    arrives_later lost.0 lost.1 jitter.1 (coming + extra_of s to coming) (now + link.delay) (omega arith)

-- a message arrives no earlier than the link lets it
pub arrival_later : (s : Setup) (from to now : ℕ) (words : Words) → IfSome (arrival_of s from to now words).0 (λ at. now + (link_between s from to).delay ≤ at)
arrival_later s from to now words =
    whether_cut (λ p. IfSome p.0 (λ at. now + (link_between s from to).delay ≤ at)) s from to now words tt (uncut_later s from to now words)

-- ---- trips

-- there is something later than a moment, if there is anything
abbrev IsFrom : ℕ → Option ℕ × Words → Type 0
IsFrom d p = IfSome p.0 (λ a. d ≤ a)

from_choice : (b : Bool) (p q : Option ℕ × Words) (d : ℕ) → IsFrom d p → IsFrom d q → IsFrom d (cond {A = Option ℕ × Words} b p q)
from_choice true p q d a b = a
from_choice false p q d a b = b

from_sooner : (d e : ℕ) (p : Option ℕ × Words) → d ≤ e → IsFrom e p → IsFrom d p
from_sooner d e (None, words) h from = tt
from_sooner d e (Some at, words) h from = omega (arith, from, h)

sooner : (now more d : ℕ) → now + d ≤ now + more + d
sooner now more d = omega arith

from_next : (more : ℕ → Words → Option ℕ × Words) (p : Option ℕ × Words) (d : ℕ) → IsFrom d p → ((there : ℕ) (words : Words) → d ≤ there → IsFrom d (more there words)) → IsFrom d (and_then more p)
from_next more (None, words) d first onward = tt
from_next more (Some there, words) d first onward = onward there words first

module _ (s : Setup) where
  try_later : (from to now : ℕ) (words : Words) → IsFrom (now + (link_between s from to).delay) (try_of s from to now words)
  unfolding try_of uncut_try_of
  try_later from to now words =
      let link = link_between s from to in
      let lost = lost_of words link.loss in
      from_choice (is_cut s from to now) _ _ (now + link.delay) tt (from_choice lost.0 _ _ (now + link.delay) tt (omega arith))

  tried_or : (more : Words → Option ℕ × Words) (p : Option ℕ × Words) (d : ℕ) → IsFrom d p → ((words : Words) → IsFrom d (more words)) → IsFrom d (or_else more p)
  tried_or more (None, words) d first rest = rest words
  tried_or more (Some there, words) d first rest = first

  tried_later : (from to now wait k left : ℕ) (words : Words) → IsFrom (now + (link_between s from to).delay) (tried_of s from to now wait k left words)
  tried_later from to now wait k zero words = tt
  tried_later from to now wait k (suc left) words =
      let sent : ℕ = now + wait * (2 ^ k - 1) in
      tried_or (tried_of s from to now wait (k + 1) left) (try_of s from to sent words) (now + (link_between s from to).delay)
      (from_sooner (now + (link_between s from to).delay) (sent + (link_between s from to).delay) (try_of s from to sent words) (sooner now (wait * (2 ^ k - 1)) (link_between s from to).delay) (try_later from to sent words))
      (λ rest. tried_later from to now wait (k + 1) left rest)

  trip_later : (from to now wait : ℕ) (words : Words) → IsFrom (now + (link_between s from to).delay) (trip_of s from to now wait words)
  unfolding trip_of
  trip_later from to now wait words = tried_later from to now wait 0 8 words

  comes_later : (from to sent d there : ℕ) (words : Words) → d ≤ there → IsFrom d (comes_of s from to sent there words)
  comes_later from to sent d there words h = omega (arith, h)

  pub call_later : (from to now : ℕ) (words : Words) → IsFrom (now + (link_between s from to).delay) (call_of s from to now words)
  unfolding call_of
  call_later from to now words =
      let d = now + (link_between s from to).delay in
      let begun = trip_of s from to now s.stream.connect words in
      let answered = and_then (λ there. trip_of s to from there s.stream.connect) begun in
      let sent = and_then (λ there. trip_of s from to there s.stream.again) answered in
      from_next (comes_of s from to now) sent d
      (from_next (λ there. trip_of s from to there s.stream.again) answered d
      (from_next (λ there. trip_of s to from there s.stream.connect) begun d (trip_later from to now s.stream.connect words) (λ there rest h. from_sooner d (there + (link_between s to from).delay) (trip_of s to from there s.stream.connect rest) (omega (arith, h)) (trip_later to from there s.stream.connect rest)))
      (λ there rest h. from_sooner d (there + (link_between s from to).delay) (trip_of s from to there s.stream.again rest) (omega (arith, h)) (trip_later from to there s.stream.again rest)))
      (λ there rest h. comes_later from to now d there rest h)

  pub answer_later : (from to now : ℕ) (words : Words) → IsFrom (now + (link_between s from to).delay) (answer_of s from to now words)
  unfolding answer_of
  answer_later from to now words =
      let d = now + (link_between s from to).delay in
      from_next (comes_of s from to now) (trip_of s from to now s.stream.again words) d (trip_later from to now s.stream.again words) (λ there rest h. comes_later from to now d there rest h)

  pub kept_later : (from to now : ℕ) (words : Words) → IsFrom (now + (link_between s from to).delay) (kept_arrival_of s from to now words)
  unfolding kept_arrival_of
  kept_later from to now words =
      let link = link_between s from to in
      let jitter = below_of words (link.jitter + 1) in
      from_choice (is_cut s from to now) _ _ (now + link.delay) tt (comes_later from to now (now + link.delay) (now + link.delay + jitter.0) jitter.1 (omega arith))

  up_later : (most d : ℕ) (p : Option ℕ × Words) → IsFrom d p → IsFrom d (up_to most p)
  up_later most d (None, words) from = tt
  up_later most d (Some at, words) from = choice_later (nat_le at most) at d from

  -- a connection is there after the link's delay at the earliest
  pub dial_later : (from to now limit : ℕ) (words : Words) → IsFrom (now + (link_between s from to).delay) (dial_of s from to now limit words)
  unfolding dial_of
  dial_later from to now limit words =
      let d = now + (link_between s from to).delay in
      let begun = trip_of s from to now s.stream.connect words in
      up_later (now + limit) d (and_then (λ there. trip_of s to from there s.stream.connect) begun)
      (from_next (λ there. trip_of s to from there s.stream.connect) begun d (trip_later from to now s.stream.connect words)
      (λ there rest h. from_sooner d (there + (link_between s to from).delay) (trip_of s to from there s.stream.connect rest) (omega (arith, h)) (trip_later to from there s.stream.connect rest)))

  -- what departs later, and waits until its receiver is free, comes later
  way_later : (k : Key) (to d : ℕ) (way : Way) (words : Words) → ((now : ℕ) (rest : Words) → IsFrom (now + d) (way now rest)) → IsFrom (k.at + d) (on_its_way (profile_of s) s k to way words)
  way_later k to d way words later =
      let departs = departs_by (profile_of s) s k in
      through_later (profile_of s) s to (k.at + d) (way departs words).0
      (from_sooner (k.at + d) (departs + d) (way departs words) (omega (arith, departs_later (profile_of s) s k)) (later departs words))

terms_sound : (s : Setup) → IsSound s → AreSound (terms_of s)
terms_sound s sound = record { period = sound.period; alpha = sound.alpha.1; beta = sound.beta; accusers_wanted = sound.confirmations }

pub positive : (n : ℕ) → nat_eq n 0 ≡ false → 0 < n
positive zero some = absurd (eqb-false zero 0 some refl)
positive (suc n) some = omega arith

further : (now beat a b : ℕ) → now < beat → now < beat + a + b
further now beat a b h = omega arith

ahead : (now n r : ℕ) → r < n → now < now + n - r
ahead now n r few = omega arith

pub long_period : (push doublings : ℕ) → 0 < push → 0 < push * (1 + doublings)
long_period push doublings some = omega (arith, some)

length_more : (rows : List Row) (row : Row) → length (rows ++ row ∷ []) ≡ length rows + 1
length_more [] row = refl
length_more (r ∷ rows) row = ap suc (length_more rows row) ∙ omega arith

module _ (s : Setup) (sound : IsSound s) (k : Key) (n : ℕ) where
  fair_begin : (t : State) → t.next_number ≡ n → IsWellMade s k n (unchanged t)
  fair_begin t same = record { later = tt; linked = tt; made = tt; apart = tt; grows = omega (arith, same); counts = refl }

  -- a change of the state that keeps the next number
  fair_state : (t : State) (o : Effect) → t.next_number ≡ o.state.next_number → IsWellMade s k n o → IsWellMade s k n (record { state = t; events = o.events; rows = o.rows })
  fair_state t o same fair = record {
    later = fair.later;
    linked = fair.linked;
    made = subst (λ next. AllByRecursion (λ e. (e.0.from ≡ k.to) × (n ≤ e.0.number) × (e.0.number < next)) o.events) (sym same) fair.made;
    apart = fair.apart;
    grows = subst (λ next. n ≤ next) (sym same) fair.grows;
    counts = fair.counts;
  }

  fair_number : (o : Effect) → IsWellMade s k n o → IsWellMade s k n (on_state with_number o)
  unfolding with_number
  fair_number o fair = record {
    later = fair.later;
    linked = fair.linked;
    made =
        all_weaker (λ e. (e.0.from ≡ k.to) × (n ≤ e.0.number) × (e.0.number < o.state.next_number)) (λ e. (e.0.from ≡ k.to) × (n ≤ e.0.number) × (e.0.number < o.state.next_number + 1))
        (λ e g. (g.0, g.1, let h = g.2 in omega arith)) o.events fair.made;
    apart = fair.apart;
    grows = let h = fair.grows in omega arith;
    counts = fair.counts;
  }

  fair_event : (at to : ℕ) (content : EventKind) (o : Effect) → k.at < at → (to ≢ k.to → k.at + (link_between s k.to to).delay ≤ at) → IsWellMade s k n o → IsWellMade s k n (with_event s k at to content o)
  unfolding with_event
  fair_event at to content o h linked fair =
      let put_off = (is_awake_at s to at).later in
      let last : Key = record { at = awake s to at; to = to; from = k.to; number = o.state.next_number } in
      record {
        later = all_append (λ e. k.at < e.0.at) o.events ((last, content) ∷ []) fair.later (omega (arith, h, put_off), tt);
        linked = all_append (λ e. e.0.to ≢ k.to → k.at + (link_between s k.to e.0.to).delay ≤ e.0.at) o.events ((last, content) ∷ []) fair.linked ((λ other. let there = linked other in omega (arith, there, put_off)), tt);
        made = all_append (λ e. (e.0.from ≡ k.to) × (n ≤ e.0.number) × (e.0.number < o.state.next_number + 1)) o.events ((last, content) ∷ [])
            (all_weaker (λ e. (e.0.from ≡ k.to) × (n ≤ e.0.number) × (e.0.number < o.state.next_number)) _ (λ e g. (g.0, g.1, let h = g.2 in omega arith)) o.events fair.made)
            ((refl, fair.grows, omega arith), tt);
        apart = rising_append (λ e f. e.0.number < f.0.number) o.events ((last, content) ∷ []) fair.apart (tt, tt)
            (all_weaker (λ e. (e.0.from ≡ k.to) × (n ≤ e.0.number) × (e.0.number < o.state.next_number)) _ (λ e g. (g.2, tt)) o.events fair.made);
        grows = let h = fair.grows in omega arith;
        counts = fair.counts;
      }

  fair_own : (at : ℕ) (content : EventKind) (o : Effect) → k.at < at → IsWellMade s k n o → IsWellMade s k n (with_event s k at k.to content o)
  fair_own at content o h fair = fair_event at k.to content o h (λ other. absurd (other refl)) fair

  fair_timer : (ticks : ℕ) (content : EventKind) (o : Effect) → 0 < ticks → IsWellMade s k n o → IsWellMade s k n (with_timer s k ticks content o)
  unfolding with_timer
  fair_timer ticks content o h fair = fair_own (k.at + ticks) content o (omega arith) fair

  fair_row : (tells : What) (about : Option ℕ) (value : ℕ) (lost : Bool) (o : Effect) → IsWellMade s k n o → IsWellMade s k n (with_row k tells about value lost o)
  unfolding with_row
  fair_row tells about value lost o fair = record {
    later = fair.later;
    linked = fair.linked;
    made = fair.made;
    apart = fair.apart;
    grows = fair.grows;
    counts =
        map-append place_of o.rows _ ∙ ap (λ l. l ++ (k, length o.rows) ∷ []) fair.counts
        ∙ sym (map-range_with_len_more (λ i. (k, i)) 0 (length o.rows) (length o.rows) (omega arith))
        ∙ ap (λ l. map (λ i. (k, i)) (range_with_len 0 l)) (sym (length_more o.rows _));
  }

  fair_choice : (b : Bool) (o p : Effect) → IsWellMade s k n o → IsWellMade s k n p → IsWellMade s k n (cond b o p)
  fair_choice true o p a b = a
  fair_choice false o p a b = b

  -- where the choice of the second says why
  fair_unless : (b : Bool) (o p : Effect) → IsWellMade s k n o → (b ≡ false → IsWellMade s k n p) → IsWellMade s k n (cond b o p)
  fair_unless true o p a b = a
  fair_unless false o p a b = b refl

  -- and where that of the first does
  fair_when : (b : Bool) (o p : Effect) → (b ≡ true → IsWellMade s k n o) → IsWellMade s k n p → IsWellMade s k n (cond b o p)
  fair_when true o p a b = a refl
  fair_when false o p a b = b

  -- ---- messages

  fair_sent_off : (to : ℕ) (content : EventKind) (arrival : Option ℕ) (o : Effect) → IfSome arrival (λ at. k.at + (link_between s k.to to).delay ≤ at) → IsWellMade s k n o → IsWellMade s k n (sent_off s k to content arrival o)
  fair_sent_off to content None o h fair = fair_number o fair
  fair_sent_off to content (Some at) o h fair = fair_event at to content o (let d = (sound.between k.to to).delay.0 in omega arith) (λ _. h) fair

  fair_posted : (tells : What) (to value : ℕ) (content : EventKind) (arrival : Option ℕ × Words) (o : Effect) → IsFrom (k.at + (link_between s k.to to).delay) arrival → IsWellMade s k n o
      → IsWellMade s k n (posted s k tells to value content arrival o)
  unfolding posted
  fair_posted tells to value content arrival o later fair = fair_sent_off to content arrival.0 _ later (fair_row tells _ _ _ _ (fair_state _ o refl fair))

  fair_sent : (tells : What) (to value : ℕ) (content : EventKind) (o : Effect) → IsWellMade s k n o → IsWellMade s k n (sent s k tells to value content o)
  fair_sent tells to value content o fair = fair_posted tells to value content _ o (way_later s k to (link_between s k.to to).delay (arrival_of s k.to to) o.state.words (arrival_later s k.to to)) fair

  same_claims : (queue : Option Queue) (room : ℕ) (t : State) → (without_claims s queue room t).next_number ≡ t.next_number
  same_claims None room t = refl
  same_claims (Some q) room t = refl

  same_riding : (profile : Profile) (bearer : Bearer) (t : State) → (without_riding_by profile s k.to bearer t).next_number ≡ t.next_number
  unfolding without_both
  same_riding Papers bearer t = refl
  same_riding Memberlist bearer t = refl
  same_riding Hashicorp bearer t = same_claims s.queue (room_of s k.to bearer s.queue) t

  -- what is left when updates ride on a message
  fair_riding : (bearer : Bearer) (o : Effect) → IsWellMade s k n o → IsWellMade s k n (without_riding s k bearer o)
  fair_riding bearer o fair = fair_state (without_riding_by (profile_of s) s k.to bearer o.state) o (same_riding (profile_of s) bearer o.state) fair

  fair_ping : (to initiator seq : ℕ) (o : Effect) → IsWellMade s k n o → IsWellMade s k n (ping_sent s k to initiator seq o)
  unfolding ping_sent
  fair_ping to initiator seq o fair = fair_sent _ to seq _ _ (fair_state _ o refl fair)

  fair_ping_req : (target seq to : ℕ) (o : Effect) → IsWellMade s k n o → IsWellMade s k n (ping_req_sent s k target seq to o)
  unfolding ping_req_sent
  fair_ping_req target seq to o fair = fair_sent _ to seq _ _ (fair_riding (bearer.PingReq target) o fair)

  fair_ack : (to initiator seq : ℕ) (o : Effect) → IsWellMade s k n o → IsWellMade s k n (ack_sent s k to initiator seq o)
  unfolding ack_sent
  fair_ack to initiator seq o fair = fair_sent _ to seq _ _ (fair_riding bearer.Ack o fair)

  fair_pings_ack : (to initiator seq : ℕ) (o : Effect) → IsWellMade s k n o → IsWellMade s k n (pings_ack_sent s k to initiator seq o)
  unfolding pings_ack_sent
  fair_pings_ack to initiator seq o fair = fair_sent _ to seq _ _ (fair_riding bearer.PingsAck o fair)

  fair_nack : (to seq : ℕ) (o : Effect) → IsWellMade s k n o → IsWellMade s k n (nack_sent s k to seq o)
  unfolding nack_sent
  fair_nack to seq o fair = fair_sent _ to seq _ o fair

  fair_join_to : (contact : Option ℕ) (o : Effect) → IsWellMade s k n o → IsWellMade s k n (join_sent_to s k contact o)
  fair_join_to None o fair = fair
  fair_join_to (Some contact) o fair = fair_sent _ contact 0 _ o fair

  fair_join : (o : Effect) → IsWellMade s k n o → IsWellMade s k n (join_sent s k o)
  unfolding join_sent
  fair_join o fair = fair_join_to (contact_of s k.to) o fair

  fair_welcome : (to : ℕ) (o : Effect) → IsWellMade s k n o → IsWellMade s k n (welcome_sent s k to o)
  unfolding welcome_sent
  fair_welcome to o fair = fair_sent _ to 0 _ o fair

  fair_bye : (to : ℕ) (o : Effect) → IsWellMade s k n o → IsWellMade s k n (bye_sent s k to o)
  unfolding bye_sent
  fair_bye to o fair = fair_sent _ to 0 _ o fair

  fair_gossip : (to : ℕ) (o : Effect) → IsWellMade s k n o → IsWellMade s k n (gossip_sent s k to o)
  unfolding gossip_sent
  fair_gossip to o fair =
      let picked = fair_riding bearer.Gossip o fair in
      fair_choice (nat_eq (length (riding s k bearer.Gossip o)) 0) _ _ picked (fair_sent _ to 0 _ _ picked)

  fair_call : (to seq : ℕ) (o : Effect) → IsWellMade s k n o → IsWellMade s k n (call_sent s k to seq o)
  unfolding call_sent
  fair_call to seq o fair = fair_posted _ to seq _ _ o (way_later s k to (link_between s k.to to).delay (call_of s k.to to) o.state.words (call_later s k.to to)) fair

  fair_answer : (to seq : ℕ) (o : Effect) → IsWellMade s k n o → IsWellMade s k n (answer_sent s k to seq o)
  unfolding answer_sent
  fair_answer to seq o fair = fair_posted _ to seq _ _ o (way_later s k to (link_between s k.to to).delay (answer_of s k.to to) o.state.words (answer_later s k.to to)) fair

  fair_push : (to : ℕ) (o : Effect) → IsWellMade s k n o → IsWellMade s k n (push_sent s k to o)
  unfolding push_sent
  fair_push to o fair = fair_posted _ to 0 _ _ o (way_later s k to (link_between s k.to to).delay (kept_arrival_of s k.to to) o.state.words (kept_later s k.to to)) fair

  fair_pull : (to : ℕ) (o : Effect) → IsWellMade s k n o → IsWellMade s k n (pull_sent s k to o)
  unfolding pull_sent
  fair_pull to o fair = fair_posted _ to 0 _ _ o (way_later s k to (link_between s k.to to).delay (kept_arrival_of s k.to to) o.state.words (kept_later s k.to to)) fair

  fair_each : (send : ℕ → Effect → Effect) → ((to : ℕ) (o : Effect) → IsWellMade s k n o → IsWellMade s k n (send to o)) → (others : List ℕ) (o : Effect) → IsWellMade s k n o
      → IsWellMade s k n (sent_to_each send others o)
  unfolding sent_to_each
  fair_each send well [] o fair = fair
  fair_each send well (to ∷ others) o fair = fair_each send well others (send to o) (well to o fair)

  -- ---- updates

  -- a moment in step lies ahead
  in_step_later : (beat interval : ℕ) → 0 < interval → k.at < next_in_step beat interval k.at
  in_step_later beat interval some =
      ahead k.at interval ((k.at + interval - beat % interval) % interval) (mod-lt (k.at + interval - beat % interval) some)

  departs_in_step : (beat interval : ℕ) → 0 < interval → k.at < next_in_step beat interval (departs_at s k)
  departs_in_step beat interval some =
      let departs = departs_at s k in
      let blocked = free_later s k.to k.at in
      let later = ahead departs interval ((departs + interval - beat % interval) % interval) (mod-lt (departs + interval - beat % interval) some) in
      omega (arith, blocked, later)

  fair_gossip_set : (gossip : Option settings.Gossip) (o : Effect) → IfSome gossip IsSoundGossip → IsWellMade s k n o → IsWellMade s k n (gossip_set s k gossip o)
  fair_gossip_set None o is fair = fair
  fair_gossip_set (Some gossip) o is fair =
      fair_choice o.state.gossips _ _ fair (fair_own _ GossipTimer _ (in_step_later (o.state.beat - 1) gossip.interval is.interval.0) (fair_state _ o refl fair))

  same_put : (queue : Option Queue) (u : Update) (t : State) → (put_up s queue u t).next_number ≡ t.next_number
  same_put None u t = refl
  same_put (Some q) u t = refl

  fair_put : (u : Update) (o : Effect) → IsWellMade s k n o → IsWellMade s k n (with_put s k u o)
  unfolding with_put
  fair_put u o fair = fair_gossip_set s.gossip _ sound.gossip (fair_state (put_up s s.queue u o.state) o (same_put s.queue u o.state) fair)

  fair_passed_on : (telling : Announce) (u : Update) (o : Effect) → IsWellMade s k n o → IsWellMade s k n (passed_on s k telling u o)
  unfolding passed_on
  fair_passed_on telling u o fair = fair_choice (is_aloud telling) _ _ (fair_put u o fair) fair

  fair_health : (h : LocalHealth) (o : Effect) → IsWellMade s k n o → IsWellMade s k n (with_health k h o)
  unfolding with_health
  fair_health h o fair =
      let after : IsWellMade s k n (on_state (λ t. record t { health = h }) o) = fair_state _ o refl fair in
      fair_choice (nat_eq h.counter o.state.health.counter) _ _ after (fair_row _ _ _ _ _ after)

  fair_refuted : (number : ℕ) (o : Effect) → IsWellMade s k n o → IsWellMade s k n (refuted s k number o)
  unfolding refuted
  fair_refuted number o fair = fair_put _ _ (fair_health _ _ (fair_row _ _ _ _ _ (fair_state _ o refl fair)))

  fair_dead : (number : ℕ) (o : Effect) → IsWellMade s k n o → IsWellMade s k n (heard_dead k number o)
  unfolding heard_dead
  fair_dead number o fair = fair_row _ _ _ _ _ (fair_state _ o refl fair)

  fair_own_applied : (claim : Claim) (number : ℕ) (o : Effect) → IsWellMade s k n o → IsWellMade s k n (own_applied s k claim number o)
  fair_own_applied claim number o fair =
      fair_choice (is_refuted (profile_of s) o.state claim number) _ _ (fair_refuted (number + 1) o fair)
      (fair_choice (is_own_death (profile_of s) claim o.state.heard_dead) _ _ (fair_dead number o fair) fair)

  fair_told : (telling : Announce) (tells : What) (subject value : ℕ) (o : Effect) → IsWellMade s k n o → IsWellMade s k n (with_told telling k tells subject value o)
  fair_told telling tells subject value o fair = fair_choice (is_aloud telling) _ _ (fair_row _ _ _ _ o fair) fair

  same_choice : (b : Bool) (t v : State) (number : ℕ) → t.next_number ≡ number → v.next_number ≡ number → (cond b t v).next_number ≡ number
  same_choice true t v number a b = a
  same_choice false t v number a b = b

  same_kept : (u : Update) (t : State) → (claim_kept u t).next_number ≡ t.next_number
  unfolding claim_kept
  same_kept u t = same_choice (is_confirm u.claim) _ _ t.next_number refl (same_choice (is_probed (get t.table u.subject)) _ _ t.next_number refl refl)

  same_turn : (held : Option (Claim × ℕ)) (subject : ℕ) (t : State) → (with_turn_of held subject t).next_number ≡ t.next_number
  same_turn None subject t = refl
  same_turn (Some held) subject t = same_choice (is_confirm held.0) _ _ t.next_number refl refl

  same_newcomer : (u : Update) (t : State) → (newcomer_kept u t).next_number ≡ t.next_number
  unfolding newcomer_kept
  same_newcomer u t = same_choice (is_confirm u.claim) _ _ t.next_number refl (same_turn (get t.table u.subject) u.subject (with_claim u t))

  same_kept_by : (profile : Profile) (u : Update) (t : State) → (claim_kept_by profile u t).next_number ≡ t.next_number
  same_kept_by Papers u t = same_kept u t
  same_kept_by Memberlist u t = same_kept u t
  same_kept_by Hashicorp u t = same_newcomer u t

  fair_kept : (u : Update) (o : Effect) → IsWellMade s k n o → IsWellMade s k n (on_state (claim_kept_by (profile_of s) u) o)
  fair_kept u o fair = fair_state (claim_kept_by (profile_of s) u o.state) o (same_kept_by (profile_of s) u o.state) fair

  same_death : (profile : Profile) (subject now : ℕ) (t : State) → (death_kept profile subject now t).next_number ≡ t.next_number
  same_death Papers subject now t = refl
  same_death Memberlist subject now t = refl
  same_death Hashicorp subject now t = refl

  fair_claim : (telling : Announce) (u : Update) (claim : Claim) (o : Effect) → IsWellMade s k n o → IsWellMade s k n (claim_heard s telling k u claim o)
  unfolding alive_heard suspect_heard confirm_heard left_heard
  fair_claim telling u Alive o fair = fair_told telling _ _ _ _ (fair_state _ o refl fair)
  fair_claim telling u Suspect o fair =
      fair_own _ _ _ (omega (arith, min-le-timeout (terms_of s) (size_by (profile_of s) o.state.table) 0 (terms_sound s sound))) (fair_told telling _ _ _ _ (fair_state _ o refl fair))
  fair_claim telling u Confirm o fair = fair_told telling _ _ _ _ (fair_state _ o (same_death (profile_of s) u.subject k.at (without_suspicion u.subject o.state)) fair)
  fair_claim telling u Left o fair = fair_told telling _ _ _ _ (fair_state _ o (same_death (profile_of s) u.subject k.at (without_suspicion u.subject o.state)) fair)
  fair_claim telling u Intent o fair = fair

  same_regards : (serf : Option Serf) (now : ℕ) (u : Update) (t : State) → (regards_kept serf now u t).next_number ≡ t.next_number
  same_regards None now u t = refl
  same_regards (Some serf) now u t = same_choice (is_alive u.claim) _ _ t.next_number refl (same_choice (is_confirm u.claim) _ _ t.next_number refl refl)

  fair_regards : (u : Update) (o : Effect) → IsWellMade s k n o → IsWellMade s k n (on_state (regards_kept s.serf k.at u) o)
  fair_regards u o fair = fair_state (regards_kept s.serf k.at u o.state) o (same_regards s.serf k.at u o.state) fair

  fair_news : (telling : Announce) (u : Update) (o : Effect) → IsWellMade s k n o → IsWellMade s k n (news_heard s telling k u o)
  unfolding news_heard
  fair_news telling u o fair = fair_passed_on telling u _ (fair_claim telling u u.claim _ (fair_regards u _ (fair_kept u o fair)))

  fair_counted : (telling : Announce) (u : Update) (found : Option HeldSuspicion) (o : Effect) → IsWellMade s k n o → IsWellMade s k n (accusation_counted s telling k u (option_map (answer_to k.at) found) o)
  fair_counted telling u None o fair = fair
  fair_counted telling u (Some suspicion) o fair = fair_passed_on telling u _ (fair_own _ _ _ (omega arith) (fair_told telling _ _ _ o fair))

  fair_accusation : (telling : Announce) (u : Update) (o : Effect) → IsWellMade s k n o → IsWellMade s k n (accusation_heard s telling k u o)
  unfolding accusation_heard
  fair_accusation telling u o fair =
      fair_counted telling u (accused_of o.state.suspicions u.subject u.accuser o.state.next_number) _ (fair_state _ o refl fair)

  fair_answered : (telling : Announce) (u : Update) (number : ℕ) (found : Option HeldSuspicion) (o : Effect) → IsWellMade s k n o
      → IsWellMade s k n (accusation_answered s telling k u number (option_map (answer_to k.at) found) o)
  fair_answered telling u number None o fair = fair
  fair_answered telling u number (Some suspicion) o fair =
      fair_choice (is_over_of o.state.suspicions u.subject k.at) _ _
      (fair_news telling (death_of k.to u.subject number) _ (fair_passed_on telling u _ (fair_told telling _ _ _ o fair))) (fair_counted telling u (Some suspicion) o fair)

  fair_prompt : (telling : Announce) (u : Update) (number : ℕ) (o : Effect) → IsWellMade s k n o → IsWellMade s k n (prompt_accusation_heard s telling k u number o)
  unfolding prompt_accusation_heard
  fair_prompt telling u number o fair =
      fair_answered telling u number (accused_of o.state.suspicions u.subject u.accuser o.state.next_number) _ (fair_state _ o refl fair)

  fair_accusation_by : (profile : Profile) (telling : Announce) (u : Update) (number : ℕ) (o : Effect) → IsWellMade s k n o → IsWellMade s k n (accusation_by profile s telling k u number o)
  fair_accusation_by Papers telling u number o fair = fair_accusation telling u o fair
  fair_accusation_by Memberlist telling u number o fair = fair_accusation telling u o fair
  fair_accusation_by Hashicorp telling u number o fair = fair_prompt telling u number o fair

  fair_other : (telling : Announce) (u : Update) (held : Option (Claim × ℕ)) (o : Effect) → IsWellMade s k n o → IsWellMade s k n (other_applied s telling k u held o)
  fair_other telling u None o fair = fair_choice (is_heeded (profile_of s) telling u.claim) _ _ (fair_news telling u o fair) fair
  fair_other telling u (Some held) o fair =
      fair_choice (does_override (profile_of s) (u.claim, u.inc) held) _ _ (fair_news telling u o fair) (fair_choice (is_repeated (profile_of s) u held) _ _ (fair_accusation_by (profile_of s) telling u held.1 o fair) fair)

  fair_claim_applied : (telling : Announce) (u : Update) (o : Effect) → IsWellMade s k n o → IsWellMade s k n (claim_applied s telling k u o)
  unfolding claim_applied
  fair_claim_applied telling u o fair =
      fair_choice (nat_eq u.subject k.to) _ _ (fair_own_applied u.claim u.inc o fair) (fair_other telling u (get o.state.table u.subject) o fair)

  fair_intent : (u : Update) (serf : Option Serf) (o : Effect) → IsWellMade s k n o → IsWellMade s k n (intent_applied s k u serf o)
  fair_intent u None o fair = fair
  fair_intent u (Some serf) o fair = fair_choice (is_known_intent k.to u.subject o.state) _ _ fair (fair_gossip_set s.gossip _ sound.gossip (fair_state _ o refl fair))

  fair_applied : (telling : Announce) (u : Update) (o : Effect) → IsWellMade s k n o → IsWellMade s k n (applied s telling k u o)
  unfolding applied
  fair_applied telling u o fair = fair_choice (is_intent u.claim) _ _ (fair_intent u s.serf o fair) (fair_claim_applied telling u o fair)

  fair_all : (telling : Announce) (us : List Update) (o : Effect) → IsWellMade s k n o → IsWellMade s k n (all_applied s telling k us o)
  unfolding all_applied
  fair_all telling [] o fair = fair
  fair_all telling (u ∷ us) o fair = fair_all telling us _ (fair_applied telling u o fair)

  -- ---- joins

  fair_push_begun : (profile : Profile) (beat push : ℕ) (o : Effect) → k.at < beat → IsWellMade s k n o → IsWellMade s k n (push_begun_by profile s k beat push o)
  unfolding push_begun even_push_begun
  fair_push_begun Papers beat push o h fair = fair_own _ PushTimer _ (further k.at beat _ _ h) (fair_state _ o refl fair)
  fair_push_begun Memberlist beat push o h fair = fair_own _ PushTimer _ (further k.at beat _ _ h) (fair_state _ o refl fair)
  fair_push_begun Hashicorp beat push o h fair = fair_own _ PushTimer _ (further k.at beat 1 _ h) (fair_state _ o refl fair)

  fair_first_push : (beat : ℕ) (gossip : Option settings.Gossip) (o : Effect) → k.at < beat → IsWellMade s k n o → IsWellMade s k n (first_push_set s k beat gossip o)
  fair_first_push beat None o h fair = fair
  fair_first_push beat (Some gossip) o h fair = fair_choice (nat_eq gossip.push 0) _ _ fair (fair_push_begun (profile_of s) beat gossip.push o h fair)

  fair_first_period : (o : Effect) → IsWellMade s k n o → IsWellMade s k n (first_period_set s k o)
  unfolding first_period_set
  fair_first_period o fair = fair_first_push _ s.gossip _ (omega arith) (fair_timer _ _ _ (omega arith) (fair_state _ o refl fair))

  fair_asked_join : (o : Effect) → IsWellMade s k n o → IsWellMade s k n (join_asked s k o)
  unfolding join_asked
  fair_asked_join o fair = fair_timer _ _ _ (omega (arith, sound.timeout.0, sound.timeout.1)) (fair_join o fair)

  same_round : (profile : Profile) (t : State) → (first_round profile t).next_number ≡ t.next_number
  same_round Papers t = refl
  same_round Memberlist t = refl
  same_round Hashicorp t = refl

  fair_began : (o : Effect) → IsWellMade s k n o → IsWellMade s k n (began s k o)
  unfolding began
  fair_began o fair =
      let others = first_others s k.to in
      let t : State = record o.state { phase = Running; incarnation = 0; table = all_alive others; rota = round_over others } in
      fair_first_period _ (fair_state (first_round (profile_of s) t) o (same_round (profile_of s) t) fair)

  fair_started : (o : Effect) → IsWellMade s k n o → IsWellMade s k n (started s k o)
  unfolding started joining_begun
  fair_started o fair =
      let told = fair_row _ _ _ _ o fair in
      fair_choice (nat_eq (start_of s k.to) 0) _ _ (fair_began _ told) (fair_asked_join _ (fair_state _ _ refl told))

  fair_crashed : (o : Effect) → IsWellMade s k n o → IsWellMade s k n (crashed k o)
  unfolding crashed
  fair_crashed o fair = fair_row _ _ _ _ _ (fair_state _ o refl fair)

  fair_join_handled : (o : Effect) → IsWellMade s k n o → IsWellMade s k n (join_handled s k o)
  unfolding join_handled
  fair_join_handled o fair = fair_welcome k.from _ (fair_applied Aloud _ o fair)

  fair_joined : (entries : List Update) (o : Effect) → IsWellMade s k n o → IsWellMade s k n (joined s k entries o)
  unfolding joined
  fair_joined entries o fair = fair_first_period _ (fair_all Quietly entries _ (fair_row _ _ _ _ _ (fair_state _ o refl fair)))

  -- ---- probes

  fair_suspected : (target : ℕ) (held : Option (Claim × ℕ)) (o : Effect) → IsWellMade s k n o → IsWellMade s k n (suspected s k target held o)
  fair_suspected target None o fair = fair
  fair_suspected target (Some held) o fair = fair_choice (is_confirm held.0) _ _ fair (fair_applied Aloud _ o fair)

  fair_failed : (probe : Probe) (o : Effect) → IsWellMade s k n o → IsWellMade s k n (probe_failed s k probe o)
  unfolding probe_failed
  fair_failed probe o fair = fair_suspected probe.target _ _ (fair_health _ _ (fair_row _ _ _ _ o fair))

  fair_ended : (probe : Option Probe) (o : Effect) → IsWellMade s k n o → IsWellMade s k n (probe_ended s k probe o)
  unfolding probe_ended
  fair_ended None o fair = fair
  fair_ended (Some probe) o fair = fair_choice probe.acked _ _ (fair_health _ o fair) (fair_failed probe o fair)

  fair_begun : (target : ℕ) (o : Effect) → IsWellMade s k n o → IsWellMade s k n (probe_begun s k target o)
  unfolding probe_begun
  fair_begun target o fair = fair_timer _ _ _ (omega (arith, sound.timeout.0)) (fair_ping target k.to _ _ (fair_state _ o refl fair))

  fair_target : (target : Option ℕ) (o : Effect) → IsWellMade s k n o → IsWellMade s k n (target_probed s k target o)
  fair_target None o fair = fair_state _ o refl fair
  fair_target (Some target) o fair = fair_begun target o fair

  fair_next : (o : Effect) → IsWellMade s k n o → IsWellMade s k n (next_probed s k o)
  unfolding next_probed
  fair_next o fair = fair_target (next_of o.state.words o.state.rota).0 _ (fair_state _ o refl fair)

  fair_period : (o : Effect) → IsWellMade s k n o → IsWellMade s k n (period_begun s k o)
  unfolding period_begun
  fair_period o fair = fair_timer _ _ _ (omega (arith, sound.timeout.0, sound.timeout.1)) (fair_next _ (fair_ended o.state.probe o fair))

  fair_help : (probe : Probe) (o : Effect) → IsWellMade s k n o → IsWellMade s k n (help_asked s k probe o)
  unfolding help_asked
  fair_help probe o fair =
      let asked = fair_each _ (fair_ping_req probe.target probe.seq) _ _ (fair_state _ o refl fair) in
      fair_choice s.lifeguard.probe _ _ (fair_state _ _ refl asked) asked

  fair_timed_out : (seq : ℕ) (probe : Option Probe) (o : Effect) → IsWellMade s k n o → IsWellMade s k n (timed_out s k seq probe o)
  unfolding timed_out
  fair_timed_out seq None o fair = fair
  fair_timed_out seq (Some probe) o fair = fair_choice (nat_eq probe.seq seq && not probe.acked && nat_lt 0 s.swim.helpers) _ _ (fair_help probe o fair) fair

  fair_ping_heard : (initiator seq : ℕ) (us : List Update) (o : Effect) → IsWellMade s k n o → IsWellMade s k n (ping_heard s k initiator seq us o)
  unfolding ping_heard
  fair_ping_heard initiator seq us o fair = fair_ack k.from initiator seq _ (fair_all Aloud us o fair)

  fair_ping_req_heard : (seq target : ℕ) (us : List Update) (o : Effect) → IsWellMade s k n o → IsWellMade s k n (ping_req_heard s k seq target us o)
  unfolding ping_req_heard
  fair_ping_req_heard seq target us o fair =
      let pinged = fair_ping target k.from seq _ (fair_all Aloud us o fair) in
      fair_choice s.lifeguard.probe _ _ (fair_timer _ _ _ (omega arith) (fair_state _ _ refl pinged)) pinged

  fair_taken : (initiator seq : ℕ) (o : Effect) → IsWellMade s k n o → IsWellMade s k n (ack_taken s k initiator seq o)
  unfolding ack_taken
  fair_taken initiator seq o fair = fair_choice (nat_eq initiator k.to) _ _ (fair_state _ o refl fair) (fair_ack initiator initiator seq _ (fair_state _ o refl fair))

  fair_ack_heard : (initiator seq : ℕ) (us : List Update) (o : Effect) → IsWellMade s k n o → IsWellMade s k n (ack_heard s k initiator seq us o)
  unfolding ack_heard
  fair_ack_heard initiator seq us o fair = fair_taken initiator seq _ (fair_all Aloud us o fair)

  fair_nack_due : (initiator seq : ℕ) (o : Effect) → IsWellMade s k n o → IsWellMade s k n (nack_due s k initiator seq o)
  unfolding nack_due
  fair_nack_due initiator seq o fair =
      fair_choice (set.contains o.state.relays (initiator, seq)) _ _ (fair_nack initiator seq _ (fair_state _ o refl fair)) fair

  fair_nack_heard : (seq : ℕ) (o : Effect) → IsWellMade s k n o → IsWellMade s k n (nack_heard seq o)
  unfolding nack_heard
  fair_nack_heard seq o fair = fair_state _ o refl fair

  fair_confirmed : (subject : ℕ) (held : Option (Claim × ℕ)) (o : Effect) → IsWellMade s k n o → IsWellMade s k n (confirmed s k subject held o)
  fair_confirmed subject None o fair = fair
  fair_confirmed subject (Some held) o fair = fair_applied Aloud _ o fair

  fair_over : (subject : ℕ) (o : Effect) → IsWellMade s k n o → IsWellMade s k n (suspicion_over s k subject o)
  unfolding suspicion_over
  fair_over subject o fair =
      fair_choice (is_due o.state.suspicions subject k.number) _ _ (fair_confirmed subject (get o.state.table subject) o fair) fair

  -- ---- leaves

  fair_withdrawn : (o : Effect) → IsWellMade s k n o → IsWellMade s k n (withdrawn k o)
  unfolding withdrawn with_row
  fair_withdrawn o fair = fair_state _ _ refl (fair_row _ _ _ _ o fair)

  fair_byes : (o : Effect) → IsWellMade s k n o → IsWellMade s k n (byes_said s k o)
  unfolding byes_said
  fair_byes o fair = fair_each _ fair_bye _ _ (fair_state _ o refl fair)

  fair_departed : (o : Effect) → IsWellMade s k n o → IsWellMade s k n (departed s k o)
  unfolding departed
  fair_departed o fair = fair_state _ _ refl (fair_byes _ (fair_row _ _ _ _ o fair))

  -- ---- probes by memberlist's rules

  fair_suspected_at : (probe : Probe) (held : Option (Claim × ℕ)) (o : Effect) → IsWellMade s k n o → IsWellMade s k n (suspected_at s k probe held o)
  fair_suspected_at probe None o fair = fair
  fair_suspected_at probe (Some held) o fair = fair_choice (is_confirm held.0) _ _ fair (fair_applied Aloud _ o fair)

  fair_timed_failed : (probe : Probe) (o : Effect) → IsWellMade s k n o → IsWellMade s k n (timed_probe_failed s k probe o)
  unfolding timed_probe_failed
  fair_timed_failed probe o fair = fair_suspected_at probe _ _ (fair_health _ _ (fair_row _ _ _ _ o fair))

  fair_settled : (probe : Option Probe) (o : Effect) → IsWellMade s k n o → IsWellMade s k n (probe_settled s k probe o)
  unfolding probe_settled
  fair_settled None o fair = fair
  fair_settled (Some probe) o fair =
      let ended = fair_state (record o.state { probe = None }) o refl fair in
      fair_choice probe.reached _ _ (fair_health _ _ ended) (fair_timed_failed probe _ ended)

  fair_deadline_set : (next_beat : Option ℕ) (seq deadline : ℕ) (o : Effect) → k.at < deadline → IsWellMade s k n o → IsWellMade s k n (deadline_set s k next_beat seq deadline o)
  fair_deadline_set next_beat seq deadline o later fair = fair_choice (needs_timer next_beat deadline) _ _ (fair_own deadline _ o later fair) (fair_number o fair)

  fair_timed_begun : (next_beat : Option ℕ) (target : ℕ) (o : Effect) → IsWellMade s k n o → IsWellMade s k n (timed_probe_begun s k next_beat target o)
  unfolding timed_probe_begun
  fair_timed_begun next_beat target o fair =
      fair_deadline_set next_beat (o.state.sequence + 1) (k.at + scaled o.state.health s.swim.period) _ (omega (arith, sound.timeout.0, sound.timeout.1))
      (fair_timer s.swim.timeout _ _ (omega (arith, sound.timeout.0)) (fair_ping target k.to _ _ (fair_state _ o refl fair)))

  fair_timed_target : (next_beat target : Option ℕ) (o : Effect) → IsWellMade s k n o → IsWellMade s k n (timed_target_probed s k next_beat target o)
  fair_timed_target next_beat None o fair = fair_state _ o refl fair
  fair_timed_target next_beat (Some target) o fair = fair_timed_begun next_beat target o fair

  fair_next_timed : (next_beat : Option ℕ) (o : Effect) → IsWellMade s k n o → IsWellMade s k n (next_timed_probed s k next_beat o)
  unfolding next_timed_probed
  fair_next_timed next_beat o fair = fair_timed_target next_beat (next_of o.state.words o.state.rota).0 _ (fair_state _ o refl fair)

  fair_waiting : (o : Effect) → IsWellMade s k n o → IsWellMade s k n (waiting_probed s k o)
  fair_waiting o fair = fair_choice o.state.waits _ _ (fair_next_timed None _ (fair_state _ o refl fair)) fair

  fair_in_turn : (next_beat : ℕ) (o : Effect) → IsWellMade s k n o → IsWellMade s k n (probed_in_turn s k next_beat o)
  fair_in_turn next_beat o fair =
      fair_choice (has_time k.at o.state.probe) _ _ (fair_state _ o refl fair) (fair_next_timed (Some next_beat) _ (fair_settled o.state.probe o fair))

  fair_beaten : (o : Effect) → IsWellMade s k n o → IsWellMade s k n (period_beaten s k o)
  unfolding period_beaten
  fair_beaten o fair =
      fair_in_turn _ _ (fair_own _ PeriodTimer o (in_step_later o.state.beat s.swim.period (omega (arith, sound.timeout.0, sound.timeout.1))) fair)

  fair_deadline : (seq : ℕ) (o : Effect) → IsWellMade s k n o → IsWellMade s k n (deadline_over s k seq o)
  unfolding deadline_over
  fair_deadline seq o fair = fair_choice (is_under_way seq o.state.probe) _ _ (fair_waiting _ (fair_settled o.state.probe o fair)) fair

  fair_timed_answered : (seq : ℕ) (o : Effect) → IsWellMade s k n o → IsWellMade s k n (timed_answered s k seq o)
  unfolding timed_answered
  fair_timed_answered seq o fair = fair_choice (is_under_way seq o.state.probe) _ _ (fair_waiting _ (fair_health _ _ (fair_state _ o refl fair))) fair

  fair_timed_ack : (initiator seq : ℕ) (us : List Update) (o : Effect) → IsWellMade s k n o → IsWellMade s k n (timed_ack_heard s k initiator seq us o)
  unfolding timed_ack_heard
  fair_timed_ack initiator seq us o fair =
      let heard = fair_all Aloud us o fair in
      fair_choice (nat_eq initiator k.to) _ _ (fair_timed_answered seq _ heard) (fair_taken initiator seq _ heard)

  fair_sampled : (probe : Probe) (o : Effect) → IsWellMade s k n o → IsWellMade s k n (sampled_help s k probe o)
  unfolding sampled_help
  fair_sampled probe o fair =
      let asked = fair_each _ (fair_ping_req probe.target probe.seq) _ _ (fair_state _ o refl fair) in
      fair_choice s.lifeguard.probe _ _ (fair_state _ _ refl asked) asked

  fair_called : (probe : Probe) (o : Effect) → IsWellMade s k n o → IsWellMade s k n (called s k probe o)
  fair_called probe o fair = fair_choice s.swim.fallback _ _ (fair_call probe.target probe.seq o fair) fair

  fair_timed_out_timed : (seq : ℕ) (probe : Option Probe) (o : Effect) → IsWellMade s k n o → IsWellMade s k n (timed_out_timed s k seq probe o)
  unfolding timed_out_timed
  fair_timed_out_timed seq None o fair = fair
  fair_timed_out_timed seq (Some probe) o fair =
      fair_choice (nat_eq probe.seq seq) _ _ (fair_called probe _ (fair_choice (nat_lt 0 s.swim.helpers) _ _ (fair_sampled probe o fair) fair)) fair

  fair_answer_heard : (seq : ℕ) (o : Effect) → IsWellMade s k n o → IsWellMade s k n (answer_heard seq o)
  unfolding answer_heard
  fair_answer_heard seq o fair = fair_state _ o refl fair

  -- ---- gossip and pushes

  fair_spread : (gossip : settings.Gossip) (o : Effect) → IsWellMade s k n o → IsWellMade s k n (gossip_spread s k gossip o)
  unfolding gossip_spread
  fair_spread gossip o fair = fair_each _ fair_gossip _ _ (fair_state _ o refl fair)

  fair_set_again : (o : Effect) → IsWellMade s k n o → IsWellMade s k n (gossip_set_again s k o)
  fair_set_again o fair = fair_choice (is_told_out o.state) _ _ fair (fair_gossip_set s.gossip o sound.gossip fair)

  fair_gossip_due : (gossip : Option settings.Gossip) (o : Effect) → IsWellMade s k n o → IsWellMade s k n (gossip_due s k gossip o)
  fair_gossip_due None o fair = fair
  fair_gossip_due (Some gossip) o fair =
      let unset = fair_state (record o.state { gossips = false }) o refl fair in
      fair_choice (is_told_out o.state) _ _ unset (fair_set_again _ (fair_spread gossip _ unset))

  fair_merged : (us : List Update) (o : Effect) → IsWellMade s k n o → IsWellMade s k n (merged s k us o)
  unfolding merged
  fair_merged us o fair = fair_all Aloud _ o fair

  fair_pushed : (push : ℕ) (o : Effect) → 0 < push → IsWellMade s k n o → IsWellMade s k n (pushed s k push o)
  unfolding pushed
  fair_pushed push o some fair =
      fair_each _ fair_push _ _ (fair_timer (push_period push (size_by (profile_of s) o.state.table)) PushTimer _ (long_period push (doublings_to (size_by (profile_of s) o.state.table)) some) (fair_state _ o refl fair))

  fair_push_due : (gossip : Option settings.Gossip) (o : Effect) → IsWellMade s k n o → IsWellMade s k n (push_due s k gossip o)
  fair_push_due None o fair = fair
  fair_push_due (Some gossip) o fair = fair_unless (nat_eq gossip.push 0) _ _ fair (λ some. fair_pushed gossip.push o (positive gossip.push some) fair)

  fair_push_heard : (us : List Update) (o : Effect) → IsWellMade s k n o → IsWellMade s k n (push_heard s k us o)
  unfolding push_heard
  fair_push_heard us o fair = fair_merged us _ (fair_pull k.from o fair)

  -- ---- the step

  fair_plain : (content : EventKind) (phase : Phase) (o : Effect) → IsWellMade s k n o → IsWellMade s k n (plain_handled s k content phase o)
  unfolding plain_handled
  fair_plain Start Waiting o fair = fair_started o fair
  fair_plain Crash Joining o fair = fair_crashed o fair
  fair_plain Crash Running o fair = fair_crashed o fair
  fair_plain JoinTimer Joining o fair = fair_asked_join o fair
  fair_plain Join Running o fair = fair_join_handled o fair
  fair_plain (Welcome entries) Joining o fair = fair_joined entries o fair
  fair_plain PeriodTimer Running o fair = fair_period o fair
  fair_plain (TimeoutTimer seq) Running o fair = fair_timed_out seq o.state.probe o fair
  fair_plain (Ping initiator seq us) Running o fair = fair_ping_heard initiator seq us o fair
  fair_plain (PingReq target seq us) Running o fair = fair_ping_req_heard seq target us o fair
  fair_plain (Ack initiator seq us) Running o fair = fair_ack_heard initiator seq us o fair
  fair_plain (NackTimer initiator seq) Running o fair = fair_nack_due initiator seq o fair
  fair_plain (Nack seq) Running o fair = fair_nack_heard seq o fair
  fair_plain (SuspicionTimer subject) Running o fair = fair_over subject o fair
  fair_plain _ _ o fair = fair

  fair_handled : (content : EventKind) (phase : Phase) (o : Effect) → IsWellMade s k n o → IsWellMade s k n (handled s k content phase o)
  unfolding handled
  fair_handled Leave Joining o fair = fair_withdrawn o fair
  fair_handled Leave Running o fair = fair_departed o fair
  fair_handled Bye Running o fair = fair_confirmed k.from (get o.state.table k.from) o fair
  fair_handled content phase o fair = fair_plain content phase o fair

  fair_timed_handled : (content : EventKind) (o : Effect) → IsWellMade s k n o → IsWellMade s k n (timed_handled s k content o)
  unfolding timed_handled
  fair_timed_handled PeriodTimer o fair = fair_beaten o fair
  fair_timed_handled (TimeoutTimer seq) o fair = fair_timed_out_timed seq o.state.probe o fair
  fair_timed_handled (DeadlineTimer seq) o fair = fair_deadline seq o fair
  fair_timed_handled (Ack initiator seq us) o fair = fair_timed_ack initiator seq us o fair
  fair_timed_handled (Call seq) o fair = fair_answer k.from seq o fair
  fair_timed_handled (Answer seq) o fair = fair_answer_heard seq o fair
  fair_timed_handled GossipTimer o fair = fair_gossip_due s.gossip o fair
  fair_timed_handled (Gossip us) o fair = fair_all Aloud us o fair
  fair_timed_handled PushTimer o fair = fair_push_due s.gossip o fair
  fair_timed_handled (Push us) o fair = fair_push_heard us o fair
  fair_timed_handled (Pull us) o fair = fair_merged us o fair
  fair_timed_handled content o fair = fair_handled content Running o fair

  -- ---- by memberlist 0.5.0's rules

  fair_plain_ping : (to initiator seq : ℕ) (o : Effect) → IsWellMade s k n o → IsWellMade s k n (plain_ping_sent s k to initiator seq o)
  unfolding plain_ping_sent
  fair_plain_ping to initiator seq o fair = fair_sent _ to seq _ _ (fair_riding (bearer.Ping to) o fair)

  fair_lone : (to seq : ℕ) (buddy : Option Update) (o : Effect) → IsWellMade s k n o → IsWellMade s k n (ping_with_lone s k to seq buddy o)
  fair_lone to seq None o fair = fair_plain_ping to k.to seq o fair
  fair_lone to seq (Some buddy) o fair = fair_sent _ to seq _ o fair

  fair_probe_ping : (to seq : ℕ) (o : Effect) → IsWellMade s k n o → IsWellMade s k n (probe_ping_sent s k to seq o)
  unfolding probe_ping_sent
  fair_probe_ping to seq o fair = fair_lone to seq (lone_buddy_of s k.to to o.state) o fair

  fair_between_beats : (seq deadline : ℕ) (o : Effect) → k.at < deadline → IsWellMade s k n o → IsWellMade s k n (deadline_between_beats s k seq deadline o)
  fair_between_beats seq deadline o later fair = fair_choice (is_in_step o.state.beat s.swim.period deadline) _ _ (fair_number o fair) (fair_own deadline _ o later fair)

  fair_single_begun : (target : ℕ) (o : Effect) → IsWellMade s k n o → IsWellMade s k n (single_probe_begun s k target o)
  unfolding single_probe_begun
  fair_single_begun target o fair =
      fair_between_beats (o.state.sequence + 1) (k.at + scaled o.state.health s.swim.period) _ (omega (arith, sound.timeout.0, sound.timeout.1))
      (fair_timer s.swim.timeout _ _ (omega (arith, sound.timeout.0)) (fair_probe_ping target _ _ (fair_state _ o refl fair)))

  -- a probe whose ping departs later
  fair_blocked_begun : (target departs : ℕ) (o : Effect) → k.at < departs → IsWellMade s k n o → IsWellMade s k n (blocked_probe_begun s k target departs o)
  unfolding blocked_probe_begun
  fair_blocked_begun target departs o later fair =
      let end = k.at + scaled o.state.health s.swim.period in
      fair_own (max end departs) _ _ (omega (arith, later))
      (fair_own (min (departs + s.swim.timeout) (max end departs)) _ _ (omega (arith, later)) (fair_probe_ping target _ _ (fair_state _ o refl fair)))

  fair_departing : (target departs : ℕ) (o : Effect) → IsWellMade s k n o → IsWellMade s k n (departing_probe_begun s k target departs o)
  fair_departing target departs o fair =
      fair_when (nat_lt k.at departs) _ _ (λ later. fair_blocked_begun target departs o (ltb-true k.at departs later) fair) (fair_single_begun target o fair)

  fair_single_target : (target : Option ℕ) (o : Effect) → IsWellMade s k n o → IsWellMade s k n (single_target_probed s k target o)
  fair_single_target None o fair = fair_state _ o refl fair
  fair_single_target (Some target) o fair = fair_departing target (departs_at s k) o fair

  fair_forgotten_if : (member : ℕ) (held : Option (Claim × ℕ)) (o : Effect) → IsWellMade s k n o → IsWellMade s k n (forgotten_if s k member held o)
  fair_forgotten_if member None o fair = fair
  fair_forgotten_if member (Some held) o fair =
      fair_choice (is_long_dead k.at (kept_for s.gossip) (o.state.since member) held.0) _ _ (fair_row _ _ _ _ _ (fair_state _ o refl fair)) fair

  fair_forgotten : (count : ℕ) (o : Effect) → IsWellMade s k n o → IsWellMade s k n (all_forgotten s k count o)
  unfolding all_forgotten
  fair_forgotten zero o fair = fair
  fair_forgotten (suc count) o fair = fair_forgotten_if count _ _ (fair_forgotten count o fair)

  fair_round_ended : (o : Effect) → IsWellMade s k n o → IsWellMade s k n (round_ended s k o)
  unfolding round_ended
  fair_round_ended o fair = fair_choice (o.state.rota.mark == length o.state.rota.members) _ _ (fair_forgotten (member_count s) o fair) fair

  fair_turn : (o : Effect) → IsWellMade s k n o → IsWellMade s k n (turn_probed s k o)
  unfolding turn_probed
  fair_turn o fair = fair_single_target (next_of o.state.words o.state.rota).0 _ (fair_state _ o refl fair)

  fair_next_single : (o : Effect) → IsWellMade s k n o → IsWellMade s k n (next_single_probed s k o)
  unfolding next_single_probed
  fair_next_single o fair = fair_turn _ (fair_round_ended o fair)

  fair_if_waiting : (o : Effect) → IsWellMade s k n o → IsWellMade s k n (next_if_waiting s k o)
  fair_if_waiting o fair = fair_choice o.state.waits _ _ (fair_next_single _ (fair_state _ o refl fair)) fair

  fair_beat_taken : (o : Effect) → IsWellMade s k n o → IsWellMade s k n (single_beat_taken s k o)
  fair_beat_taken o fair =
      fair_choice (has_time k.at o.state.probe) _ _ (fair_state _ o refl fair) (fair_next_single _ (fair_settled o.state.probe _ (fair_state _ o refl fair)))

  fair_single_beaten : (o : Effect) → IsWellMade s k n o → IsWellMade s k n (single_beaten s k o)
  unfolding single_beaten
  fair_single_beaten o fair =
      fair_beat_taken _ (fair_own _ PeriodTimer o (in_step_later o.state.beat s.swim.period (omega (arith, sound.timeout.0, sound.timeout.1))) fair)

  fair_single_deadline : (seq : ℕ) (o : Effect) → IsWellMade s k n o → IsWellMade s k n (single_deadline_over s k seq o)
  unfolding single_deadline_over
  fair_single_deadline seq o fair = fair_choice (is_under_way seq o.state.probe) _ _ (fair_if_waiting _ (fair_settled o.state.probe o fair)) fair

  fair_single_answered : (seq : ℕ) (o : Effect) → IsWellMade s k n o → IsWellMade s k n (single_answered s k seq o)
  unfolding single_answered
  fair_single_answered seq o fair = fair_choice (is_under_way seq o.state.probe) _ _ (fair_if_waiting _ (fair_health _ _ (fair_state _ o refl fair))) fair

  fair_ping_answered : (initiator seq : ℕ) (us : List Update) (o : Effect) → IsWellMade s k n o → IsWellMade s k n (ping_answered s k initiator seq us o)
  unfolding ping_answered
  fair_ping_answered initiator seq us o fair = fair_all Aloud us _ (fair_pings_ack k.from initiator seq o fair)

  fair_help_asked_for : (seq target : ℕ) (us : List Update) (o : Effect) → IsWellMade s k n o → IsWellMade s k n (help_asked_for s k seq target us o)
  unfolding help_asked_for
  fair_help_asked_for seq target us o fair = fair_all Aloud us _ (fair_timer _ _ _ (omega arith) (fair_state _ _ refl (fair_plain_ping target k.from seq o fair)))

  fair_passed_ack : (initiator seq : ℕ) (o : Effect) → IsWellMade s k n o → IsWellMade s k n (ack_passed_on s k initiator seq o)
  fair_passed_ack initiator seq o fair = fair_choice (set.contains o.state.relays (initiator, seq)) _ _ (fair_ack initiator initiator seq _ (fair_state _ o refl fair)) fair

  fair_single_ack : (initiator seq : ℕ) (us : List Update) (o : Effect) → IsWellMade s k n o → IsWellMade s k n (single_ack_heard s k initiator seq us o)
  unfolding single_ack_heard
  fair_single_ack initiator seq us o fair =
      fair_all Aloud us _ (fair_choice (nat_eq initiator k.to) _ _ (fair_single_answered seq o fair) (fair_passed_ack initiator seq o fair))

  fair_help_over : (initiator seq : ℕ) (o : Effect) → IsWellMade s k n o → IsWellMade s k n (help_over s k initiator seq o)
  unfolding help_over
  fair_help_over initiator seq o fair = fair_choice s.lifeguard.probe _ _ (fair_nack_due initiator seq o fair) (fair_state _ o refl fair)

  fair_single_handled : (content : EventKind) (o : Effect) → IsWellMade s k n o → IsWellMade s k n (single_handled s k content o)
  unfolding single_handled
  fair_single_handled PeriodTimer o fair = fair_single_beaten o fair
  fair_single_handled (DeadlineTimer seq) o fair = fair_single_deadline seq o fair
  fair_single_handled (Ping initiator seq us) o fair = fair_ping_answered initiator seq us o fair
  fair_single_handled (PingReq target seq us) o fair = fair_help_asked_for seq target us o fair
  fair_single_handled (Ack initiator seq us) o fair = fair_single_ack initiator seq us o fair
  fair_single_handled (NackTimer initiator seq) o fair = fair_help_over initiator seq o fair
  fair_single_handled content o fair = fair_timed_handled content o fair

  -- ---- dials

  -- a connection is there later than now
  dial_ahead : (to : ℕ) (t : State) → IfSome (dial_drawn s k to t).0 (λ at. k.at < at)
  dial_ahead to t =
      let departs = departs_at s k in
      let wait = (sound.between k.to to).delay.0 in
      let blocked = free_later s k.to k.at in
      after (dial_drawn s k to t).0 k.at (departs + (link_between s k.to to).delay) (omega (arith, wait, blocked)) (dial_later s k.to to departs s.dial.limit t.words)

  done_later : (there : Option ℕ) → IfSome there (λ at. k.at < at) → k.at < dial_done s k there
  done_later None later = let blocked = free_later s k.to k.at in let limit = sound.limit.0 in omega (arith, blocked, limit)
  done_later (Some at) later = later

  fair_dialed : (tells : What) (to : ℕ) (there : Option ℕ) (o : Effect) → IfSome there (λ at. k.at < at) → IsWellMade s k n o → IsWellMade s k n (dialed s k tells to there o)
  fair_dialed tells to None o later fair = fair_row _ _ _ _ o fair
  fair_dialed tells to (Some there) o later fair = fair_own there (ConnectedTimer to) _ later (fair_row _ _ _ _ o fair)

  fair_push_dialed : (to : ℕ) (there : Option ℕ) (o : Effect) → IfSome there (λ at. k.at < at) → IsWellMade s k n o → IsWellMade s k n (push_dialed s k to there o)
  fair_push_dialed to None o later fair = fair_row _ _ _ _ o fair
  fair_push_dialed to (Some there) o later fair = fair_own there (ConnectedTimer to) o later fair

  -- ---- beginnings

  fair_contact_dialed : (contact : ℕ) (o : Effect) → IsWellMade s k n o → IsWellMade s k n (contact_dialed s k contact o)
  unfolding contact_dialed
  fair_contact_dialed contact o fair =
      let drawn = dial_drawn s k contact o.state in
      let ahead = dial_ahead contact o.state in
      fair_own (dial_done s k drawn.0 + s.dial.retry) JoinTimer _ (let done = done_later drawn.0 ahead in omega (arith, done))
      (fair_dialed what.Join contact drawn.0 _ ahead (fair_state (with_words drawn.1 o.state) o refl fair))

  fair_contact_asked : (contact : Option ℕ) (o : Effect) → IsWellMade s k n o → IsWellMade s k n (contact_asked s k contact o)
  fair_contact_asked None o fair = fair
  fair_contact_asked (Some contact) o fair = fair_contact_dialed contact o fair

  fair_reached_contact : (us : List Update) (o : Effect) → IsWellMade s k n o → IsWellMade s k n (contact_reached k us o)
  fair_reached_contact us o fair = fair_choice (is_asked k.from o.state.life.contact) _ _ (fair_row _ _ _ _ _ (fair_state _ o refl fair)) fair

  fair_setting : (gossip : Option settings.Gossip) (o : Effect) → IsWellMade s k n o → IsWellMade s k n (setting_set s k gossip o)
  fair_setting None o fair = fair
  fair_setting (Some gossip) o fair = fair_choice (nat_eq gossip.push 0) _ _ fair (fair_timer _ SettingTimer _ (omega arith) (fair_state _ o refl fair))

  fair_reconnect : (serf : Option Serf) (o : Effect) → IfSome serf IsSoundSerf → IsWellMade s k n o → IsWellMade s k n (reconnect_set s k serf o)
  fair_reconnect None o is fair = fair
  fair_reconnect (Some serf) o is fair = fair_timer serf.reconnect ReconnectTimer o is.reconnect.0 fair

  fair_own_beats : (o : Effect) → IsWellMade s k n o → IsWellMade s k n (own_beats_set s k o)
  fair_own_beats o fair = fair_timer s.swim.period PeriodTimer _ (omega (arith, sound.timeout.0, sound.timeout.1)) (fair_state _ o refl fair)

  fair_alone : (contact : Option ℕ) (o : Effect) → IsWellMade s k n o → IsWellMade s k n (alone_begun s k contact o)
  unfolding alone_begun
  fair_alone contact o fair = fair_contact_asked contact _ (fair_reconnect s.serf _ sound.serf (fair_setting s.gossip _ (fair_own_beats o fair)))

  fair_pushes_set : (gossip : Option settings.Gossip) (o : Effect) → IsWellMade s k n o → IsWellMade s k n (pushes_set s k gossip o)
  fair_pushes_set None o fair = fair
  fair_pushes_set (Some gossip) o fair =
      let members = size_by (profile_of s) o.state.table in
      fair_unless (nat_eq gossip.push 0) _ _ fair (λ some. fair_timer (push_period gossip.push members) PushTimer o (long_period gossip.push (doublings_to members) (positive gossip.push some)) fair)

  -- the beat of a founder's periods lies ahead
  first_beat : (gossip : Option settings.Gossip) (beat : ℕ) (o : Effect) → (first_push_set s k beat gossip o).state.beat ≡ o.state.beat
  unfolding push_begun even_push_begun with_event
  first_beat None beat o = refl
  first_beat (Some gossip) beat o = by_test (nat_eq gossip.push 0) (profile_of s)
    where
      by_test : (b : Bool) (profile : Profile) → (cond b o (push_begun_by profile s k beat gossip.push o)).state.beat ≡ o.state.beat
      by_test true profile = refl
      by_test false Papers = refl
      by_test false Memberlist = refl
      by_test false Hashicorp = refl

  beat_ahead : (o : Effect) → k.at < (began s k o).state.beat
  unfolding began first_period_set with_timer with_event
  beat_ahead o =
      let others = first_others s k.to in
      let begun : State = first_round (profile_of s) (record o.state { phase = Running; incarnation = 0; table = all_alive others; rota = round_over others }) in
      let drawn = below_of begun.words s.swim.spread in
      let beat = k.at + (1 + drawn.0) in
      let set = with_timer s k (1 + drawn.0) PeriodTimer (record { state = record begun { words = drawn.1; beat = beat }; events = o.events; rows = o.rows }) in
      let same : (began s k o).state.beat ≡ beat = first_beat s.gossip beat set in
      subst (λ b. k.at < b) (sym same) (omega arith)

  fair_founders : (serf : Option Serf) (o : Effect) → k.at < o.state.beat → IsWellMade s k n o → IsWellMade s k n (founders_reconnect_set s k serf o)
  fair_founders None o h fair = fair
  fair_founders (Some serf) o h fair = fair_own (o.state.beat + (below_of o.state.words serf.reconnect).0) ReconnectTimer _ (omega (arith, h)) (fair_state _ o refl fair)

  fair_process_started : (o : Effect) → IsWellMade s k n o → IsWellMade s k n (process_started s k o)
  unfolding process_started
  fair_process_started o fair =
      let told = fair_row what.Start None 0 false o fair in
      fair_choice (nat_eq (start_of s k.to) 0) _ _ (fair_founders s.serf _ (beat_ahead _) (fair_began _ told)) (fair_alone (contact_of s k.to) _ (fair_state _ _ refl told))

  fair_restarted : (contact : Option ℕ) (o : Effect) → IsWellMade s k n o → IsWellMade s k n (restarted s k contact o)
  unfolding restarted
  fair_restarted contact o fair = fair_alone contact _ (fair_row _ _ _ _ _ (fair_state (reborn s k.to contact o.state) o refl fair))

  -- ---- dialed pushes

  fair_push_opened : (period to : ℕ) (o : Effect) → IsWellMade s k n o → IsWellMade s k n (push_opened s k period to o)
  unfolding push_opened
  fair_push_opened period to o fair =
      let drawn = dial_drawn s k to o.state in
      let ahead = dial_ahead to o.state in
      fair_own (dial_done s k drawn.0 + period) PushTimer _ (let done = done_later drawn.0 ahead in omega (arith, done))
      (fair_push_dialed to drawn.0 _ ahead (fair_state (with_words drawn.1 o.state) o refl fair))

  fair_push_opened_to : (period : ℕ) (them : List ℕ) (o : Effect) → 0 < period → IsWellMade s k n o → IsWellMade s k n (push_opened_to s k period them o)
  fair_push_opened_to period [] o some fair = fair_timer period PushTimer o some fair
  fair_push_opened_to period (to ∷ others) o some fair = fair_push_opened period to o fair

  fair_dialed_push : (push : ℕ) (o : Effect) → 0 < push → IsWellMade s k n o → IsWellMade s k n (dialed_push s k push o)
  unfolding dialed_push
  fair_dialed_push push o some fair =
      let members = size_by (profile_of s) o.state.table in
      fair_push_opened_to (push_period push members) _ _ (long_period push (doublings_to members) some) (fair_state _ o refl fair)

  fair_dialed_push_due : (gossip : Option settings.Gossip) (o : Effect) → IsWellMade s k n o → IsWellMade s k n (dialed_push_due s k gossip o)
  fair_dialed_push_due None o fair = fair
  fair_dialed_push_due (Some gossip) o fair = fair_unless (nat_eq gossip.push 0) _ _ fair (λ some. fair_dialed_push gossip.push o (positive gossip.push some) fair)

  -- ---- merges

  same_noted : (serf : Option Serf) (u : Update) (t : State) → (leave_noted serf k.to u t).next_number ≡ t.next_number
  same_noted None u t = refl
  same_noted (Some serf) u t = same_choice (is_left_and_not_up k.to u t) _ _ t.next_number refl refl

  fair_entry : (u : Update) (o : Effect) → IsWellMade s k n o → IsWellMade s k n (entry_merged s k u o)
  fair_entry u o fair =
      let heard = applied s Aloud k (entry_claim k.to u) o in
      fair_state (leave_noted s.serf k.to u heard.state) heard (same_noted s.serf u heard.state) (fair_applied Aloud (entry_claim k.to u) o fair)

  fair_table : (us : List Update) (o : Effect) → IsWellMade s k n o → IsWellMade s k n (table_merged s k us o)
  unfolding table_merged
  fair_table [] o fair = fair
  fair_table (u ∷ us) o fair = fair_table us (entry_merged s k u o) (fair_entry u o fair)

  fair_push_merged : (us : List Update) (o : Effect) → IsWellMade s k n o → IsWellMade s k n (push_merged s k us o)
  unfolding push_merged
  fair_push_merged us o fair = fair_table us _ (fair_pull k.from o fair)

  fair_pull_merged : (us : List Update) (o : Effect) → IsWellMade s k n o → IsWellMade s k n (pull_merged s k us o)
  fair_pull_merged us o fair = fair_table us _ (fair_reached_contact us o fair)

  -- ---- leaves by Serf's rules

  lingers : (serf : Option Serf) → IfSome serf IsSoundSerf → 0 < linger_of serf
  lingers None is = omega arith
  lingers (Some serf) is = is.linger.0

  fair_lingered : (o : Effect) → IsWellMade s k n o → IsWellMade s k n (lingered s k o)
  fair_lingered o fair = fair_timer (linger_of s.serf) ExitTimer _ (lingers s.serf sound.serf) (fair_state _ o refl fair)

  fair_left_said : (o : Effect) → IsWellMade s k n o → IsWellMade s k n (left_said s k o)
  unfolding left_said
  fair_left_said o fair =
      let told = with_row k what.Left (Some k.to) o.state.incarnation false (on_state (with_leaving Says) o) in
      let so_far : IsWellMade s k n told = fair_row _ _ _ _ _ (fair_state (with_leaving Says o.state) o refl fair) in
      fair_choice (is_anybody_up told.state) _ _ (fair_put (own_left k.to told.state.incarnation) told so_far) (fair_lingered told so_far)

  fair_leave_told : (o : Effect) → IsWellMade s k n o → IsWellMade s k n (leave_told s k o)
  fair_leave_told o fair =
      fair_choice (is_some s.serf && is_anybody_up o.state) _ _ (fair_gossip_set s.gossip _ sound.gossip (fair_state _ o refl fair)) (fair_left_said o fair)

  fair_leave_begun : (o : Effect) → IsWellMade s k n o → IsWellMade s k n (leave_begun s k o)
  unfolding leave_begun
  fair_leave_begun o fair = fair_choice (does_stay o.state.life.leaving) _ _ (fair_leave_told _ (fair_row _ _ _ _ o fair)) fair

  fair_gone_on : (o : Effect) → IsWellMade s k n o → IsWellMade s k n (leave_gone_on s k o)
  unfolding leave_gone_on
  fair_gone_on o fair =
      let told = fair_choice (does_intend o.state.life.leaving && not (contains_key o.state.life.intents k.to)) _ _ (fair_left_said o fair) fair in
      let so_far = intent_sent s k o in
      fair_choice (is_running o.state.phase) _ _ (fair_choice (does_say so_far.state.life.leaving && not (is_claim_held s.queue k.to so_far.state)) _ _ (fair_lingered so_far told) told) fair

  fair_exited : (o : Effect) → IsWellMade s k n o → IsWellMade s k n (exited k o)
  unfolding exited
  fair_exited o fair = fair_state _ _ refl (fair_row _ _ _ _ o fair)

  -- ---- tries to reach those that failed

  fair_next_try : (serf : Serf) (done : ℕ) (o : Effect) → IsSoundSerf serf → k.at ≤ done → IsWellMade s k n o → IsWellMade s k n (next_try_set s k serf done o)
  fair_next_try serf done o is h fair = fair_own (done + serf.reconnect) ReconnectTimer o (let some = is.reconnect.0 in omega (arith, h, some)) fair

  fair_failed_dialed : (serf : Serf) (to : ℕ) (o : Effect) → IsSoundSerf serf → IsWellMade s k n o → IsWellMade s k n (failed_dialed s k serf to o)
  unfolding failed_dialed
  fair_failed_dialed serf to o is fair =
      let drawn = dial_drawn s k to o.state in
      let ahead = dial_ahead to o.state in
      fair_next_try serf (dial_done s k drawn.0) _ is (let done = done_later drawn.0 ahead in omega (arith, done))
      (fair_dialed what.Reconnect to drawn.0 _ ahead (fair_state (with_words drawn.1 o.state) o refl fair))

  fair_any_tried : (serf : Serf) (failed : List ℕ) (o : Effect) → IsSoundSerf serf → IsWellMade s k n o → IsWellMade s k n (any_tried s k serf failed o)
  fair_any_tried serf [] o is fair = fair_next_try serf k.at o is (omega arith) fair
  fair_any_tried serf (m ∷ failed) o is fair =
      let chance = below_of o.state.words (live_count o.state.table) in
      let drawn : IsWellMade s k n (on_state (with_words chance.1) o) = fair_state (with_words chance.1 o.state) o refl fair in
      fair_choice (nat_lt chance.0 (length (m ∷ failed))) _ _ (fair_failed_dialed serf _ _ is (fair_state _ _ refl drawn)) (fair_next_try serf k.at _ is (omega arith) drawn)

  fair_reconnect_due : (serf : Option Serf) (o : Effect) → IfSome serf IsSoundSerf → IsWellMade s k n o → IsWellMade s k n (reconnect_due s k serf o)
  unfolding reconnect_due
  fair_reconnect_due None o is fair = fair
  fair_reconnect_due (Some serf) o is fair =
      fair_any_tried serf (failed_among (member_count s) (failures_reaped k.at serf.reap o.state).life.regards) _ is (fair_state (failures_reaped k.at serf.reap o.state) o refl fair)

  -- ---- gossip of claims and intents

  fair_whole_gossip : (gossip : Option settings.Gossip) (o : Effect) → IfSome gossip IsSoundGossip → IsWellMade s k n o → IsWellMade s k n (whole_gossip_due s k gossip o)
  fair_whole_gossip None o is fair = fair
  fair_whole_gossip (Some gossip) o is fair =
      let unset : IsWellMade s k n (on_state (λ t. record t { gossips = false }) o) = fair_state (record o.state { gossips = false }) o refl fair in
      let spread = gossip_spread s k gossip (on_state (λ t. record t { gossips = false }) o) in
      let told = fair_spread gossip _ unset in
      fair_choice (is_all_told s (record o.state { gossips = false })) _ _ unset
      (fair_choice (is_all_told s spread.state) _ _ told
      (fair_own (next_in_step (spread.state.beat - 1) gossip.interval (departs_at s k)) GossipTimer _ (departs_in_step (spread.state.beat - 1) gossip.interval is.interval.0) (fair_state _ spread refl told)))

  -- ---- processes

  fair_process : (content : EventKind) (o : Effect) → IsWellMade s k n o → IsWellMade s k n (process_handled s k content o)
  unfolding process_handled
  fair_process (Restart contact) o fair = fair_restarted contact o fair
  fair_process Leave o fair = fair_leave_begun o fair
  fair_process JoinTimer o fair = fair_contact_asked o.state.life.contact o fair
  fair_process SettingTimer o fair = fair_pushes_set s.gossip o fair
  fair_process (ConnectedTimer to) o fair = fair_push to o fair
  fair_process PushTimer o fair = fair_dialed_push_due s.gossip o fair
  fair_process (Push us) o fair = fair_push_merged us o fair
  fair_process (Pull us) o fair = fair_pull_merged us o fair
  fair_process GossipTimer o fair = fair_whole_gossip s.gossip o sound.gossip fair
  fair_process ReconnectTimer o fair = fair_reconnect_due s.serf o sound.serf fair
  fair_process ExitTimer o fair = fair_exited o fair
  fair_process Join o fair = fair
  fair_process (Welcome us) o fair = fair
  fair_process Bye o fair = fair
  fair_process content o fair = fair_single_handled content o fair

  fair_start : (content : EventKind) (o : Effect) → IsWellMade s k n o → IsWellMade s k n (start_handled s k content o)
  fair_start Start o fair = fair_process_started o fair
  fair_start _ o fair = fair

  fair_restart : (content : EventKind) (o : Effect) → IsWellMade s k n o → IsWellMade s k n (restart_handled s k content o)
  fair_restart (Restart contact) o fair = fair_restarted contact o fair
  fair_restart _ o fair = fair

  fair_phase : (phase : Phase) (content : EventKind) (o : Effect) → IsWellMade s k n o → IsWellMade s k n (phase_handled phase s k content o)
  fair_phase Waiting content o fair = fair_start content o fair
  fair_phase Joining content o fair = fair
  fair_phase Running content o fair = fair_gone_on _ (fair_process content o fair)
  fair_phase Down content o fair = fair_restart content o fair

  fair_lived : (phase : Phase) (content : EventKind) (o : Effect) → IsWellMade s k n o → IsWellMade s k n (process_lived phase s k content o)
  unfolding process_lived
  fair_lived phase content o fair = fair_choice (is_of_former_life k content o.state.life.birth) _ _ fair (fair_phase phase content o fair)

  fair_by : (phase : Phase) (profile : Profile) (content : EventKind) (o : Effect) → IsWellMade s k n o → IsWellMade s k n (handled_by phase profile s k content o)
  fair_by phase Papers content o fair = fair_handled content phase o fair
  fair_by Waiting Memberlist content o fair = fair_handled content Waiting o fair
  fair_by Joining Memberlist content o fair = fair_handled content Joining o fair
  fair_by Running Memberlist content o fair = fair_timed_handled content o fair
  fair_by Down Memberlist content o fair = fair_handled content Down o fair
  fair_by phase Hashicorp content o fair = fair_lived phase content o fair

pub fair_step : (s : Setup) → IsSound s → (k : Key) (c : EventKind) (t : State) → IsWellMade s k t.next_number (step s k c t)
unfolding step
fair_step s sound k c t = fair_by s sound k t.next_number t.phase (profile_of s) c (unchanged t) (fair_begin s sound k t.next_number t refl)

pub steps_later : (s : Setup) → IsSound s → MakesLater (step s)
steps_later s sound k c t = (fair_step s sound k c t).later

pub steps_numbered : (s : Setup) → IsSound s → UsesNumbers (λ (t : State). t.next_number) (step s)
steps_numbered s sound = record {
  made = λ k c t. (fair_step s sound k c t).made;
  apart = λ k c t. (fair_step s sound k c t).apart;
  grows = λ k c t. (fair_step s sound k c t).grows;
}

pub steps_counted : (s : Setup) → IsSound s → CountsRows place_of (step s)
steps_counted s sound k c t = (fair_step s sound k c t).counts

pub steps_linked : (s : Setup) → IsSound s → (k : Key) (c : EventKind) (t : State)
    → AllByRecursion (λ e. e.0.to ≢ k.to → k.at + (link_between s k.to e.0.to).delay ≤ e.0.at) (step s k c t).events
steps_linked s sound k c t = (fair_step s sound k c t).linked
