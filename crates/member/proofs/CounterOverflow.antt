-- What a counter at its limit makes of the definitions, whose numbers have none.
use Rattle.std.proofs.Common.{◌≡◌, ℕ, ◌+◌, ◌<◌, ◌≤◌, ◌^◌, Bool, true, false, cond, max, nat_eq, nat_lt, List, [], ◌∷◌, length, Option, Some, None, Result, Ok, Err, IsErrAnd, inl, inr, sym, ap, ◌∙◌, subst, arith}
use Rattle.std.specs.Result.{IsErrOf}
use Rattle.std.specs.Option.{option_map_or}
use Rattle.std.specs.FinMap.{get}
use Rattle.std.proofs.lemmas.Bool.{false≢true, and_parts, eqb-true, leb-true, ltb-true}
use Rattle.base.specs.declared.key.Key.{Key}
use Rattle.base.specs.declared.profile.Profile.{Profile}
use Rattle.base.specs.declared.profile.Profile.TheVariants.{Papers, Memberlist, Hashicorp}
use Rattle.scenario.specs.Setup.{Setup, contact_of}
use Rattle.scenario.specs.Profile.{profile_of}
use Rattle.scenario.specs.declared.settings.Gossip as settings
use Rattle.scenario.specs.declared.settings.Queue.{Queue}
use Rattle.scenario.specs.declared.settings.Serf.{Serf}
use Rattle.streams.specs.Draw.{Words}
use Rattle.trace.specs.declared.row.What.{What}
use Rattle.member.specs.declared.event_kind.EventKind.{EventKind}
use Rattle.member.specs.declared.announce.Announce.{Announce}
use Rattle.member.specs.declared.announce.Announce.TheVariants.{Aloud}
use Rattle.member.specs.Announce.{is_aloud}
use Rattle.member.specs.declared.event.Effects.{Effects}
use Rattle.member.specs.declared.here.Here.{Here}
use Rattle.member.specs.declared.member.Member.{Member}
use Rattle.member.specs.declared.step_error.StepError.{StepError}
use Rattle.member.specs.declared.step_error.StepError.TheVariants.{CounterOverflow}
use Rattle.member.specs.Makes.{Makes}
use Rattle.member.specs.State.{State, is_probed}
use Rattle.member.specs.Effects.{Effect, on_state, with_row, with_number, with_event, with_timer}
use Rattle.member.specs.Send.{posted, sent, sent_off, sent_to_each, ping_sent, ping_req_sent, ack_sent, join_sent, join_sent_to, welcome_sent, bye_sent, riding, gossip_sent, pings_ack_sent, call_sent, push_sent, pull_sent}
use Rattle.member.specs.declared.riding.Bearer.{Bearer}
use Rattle.member.specs.declared.riding.Bearer.TheVariants as bearer
use Rattle.member.specs.Riding.{room_of, without_claims, without_both, without_riding_by, put_up}
use Rattle.member.specs.Intents.{regard_kept, regards_kept, is_known_intent}
use Rattle.incarnation.specs.declared.Claim.{Claim}
use Rattle.incarnation.specs.declared.Claim.TheVariants.{Alive, Suspect, Confirm, Left, Intent}
use Rattle.incarnation.specs.declared.Update.{Update}
use Rattle.incarnation.specs.Refutations.{does_refute}
use Rattle.lifeguard.specs.Health.{LocalHealth, scaled}
use Rattle.suspicion.specs.declared.suspicions.Accused.{Accused}
use Rattle.membership.specs.Table.{is_alive, is_confirm, is_intent, does_override}
use Rattle.suspicion.specs.Suspicions.{is_over_of}
use Rattle.member.specs.LateAccusations.{death_of, accused_confirmed, accusation_answered, prompt_accusation_heard, accusation_by}
use Rattle.member.specs.Blocks.{departs_at}
use Rattle.member.specs.LoneBuddy.{plain_ping_sent, ping_with_lone, probe_ping_sent}
use Rattle.member.specs.SingleBeat.{is_in_step, deadline_between_beats, both_timers_set, single_probe_begun, blocked_probe_begun, departing_probe_begun, single_target_probed, turn_probed, next_single_probed, next_if_waiting, next_of_beat, single_beat_taken}
use Rattle.member.specs.Apply.{gossip_set, with_put, passed_on, with_health, refuted, heard_dead, is_own_death, is_refuted, own_applied, with_told, with_claim, claim_kept, with_turn_of, newcomer_kept, claim_kept_by, without_suspicion, alive_heard, suspect_heard, death_kept, confirm_heard, left_heard, claim_heard, news_heard, accusation_counted, accusation_heard, is_repeated, is_heeded, other_applied, claim_applied, intent_applied, applied, all_applied}
use Rattle.lifeguard.specs.declared.probe.Probe.{Probe}
use Rattle.lifeguard.specs.Probe.{fresh_probe, timed_probe}
use Rattle.member.specs.Step.{suspected, probe_failed, probe_ended, probe_begun, target_probed, next_probed, with_relay, ack_taken, push_begun, even_push_begun, push_begun_by, first_push_set, first_period_set, suspected_at, timed_probe_failed, probe_settled, needs_timer, deadline_set, probe_timers_set, timed_probe_begun, timed_target_probed, next_timed_probed, waiting_probed, has_time, probed_in_turn, timed_answered, timed_ack_taken, called, gossip_set_again, merged}
use Rattle.member.specs.StateOf.{state_of, effect_of}
use Rattle.member.specs.CounterOverflow.{IsOverflowed}
use Rattle.member.proofs.ForgottenOnes.{overflow_ended}

-- no member in memory has a counter past its limit
pub not_overflow : (m : Member) → ¬ (IsOverflowed (state_of m))
not_overflow m overflow =
    let number = m.number_within in
    let sequence = m.sequence_within in
    let incarnation = m.incarnation_within in
    elim overflow [ inl h ↦ omega arith | inr more ↦ elim more [ inl h ↦ omega arith | inr h ↦ omega arith ] ]

-- a part whose refusal is handed on: a counter that overflows in the part overflows in the whole
pub refused : {here : Here} {old new : Member} {before after : Effects} {change : Effect → Effect} (r : Result (Unit {0}) StepError) (e : StepError) → IsErrAnd r (λ y. y ≡ e)
    → (IsErrOf {T = Unit {0}} (Err e) CounterOverflow → IsOverflowed (change (effect_of old before)).state) → Makes here r old before new after change
refused (Ok t) e gives wears = absurd gives
refused (Err y) e gives wears = record { ok = tt; overflow = λ is. wears (let same : y ≡ CounterOverflow = cc in ap Err (sym gives ∙ same)); kept = tt }

-- the counter stands at its limit, and would have to rise
pub overflow_out : {here : Here} {old new : Member} {before after : Effects} {change : Effect → Effect} → IsOverflowed (change (effect_of old before)).state
    → Makes here (Err CounterOverflow) old before new after change
overflow_out overflow = record { ok = tt; overflow = λ _. overflow; kept = tt }

pub overflow_number : (t : State) → 2 ^ 63 ≤ t.next_number → IsOverflowed (with_number t)
unfolding with_number
overflow_number t h = inl (omega arith)

pub overflow_event : (s : Setup) (k : Key) (at to : ℕ) (content : EventKind) (o : Effect) → 2 ^ 63 ≤ o.state.next_number → IsOverflowed (with_event s k at to content o).state
unfolding with_event
overflow_event s k at to content o h = inl (omega arith)

pub kept_row : (k : Key) (tells : What) (about : Option ℕ) (value : ℕ) (lost : Bool) (o : Effect) → IsOverflowed o.state → IsOverflowed (with_row k tells about value lost o).state
unfolding with_row
kept_row k tells about value lost o overflow = overflow

pub kept_event : (s : Setup) (k : Key) (at to : ℕ) (content : EventKind) (o : Effect) → IsOverflowed o.state → IsOverflowed (with_event s k at to content o).state
unfolding with_event
kept_event s k at to content o overflow = elim overflow [ inl h ↦ inl (omega arith) | inr h ↦ inr h ]

pub kept_timer : (s : Setup) (k : Key) (ticks : ℕ) (content : EventKind) (o : Effect) → IsOverflowed o.state → IsOverflowed (with_timer s k ticks content o).state
unfolding with_timer
kept_timer s k ticks content o overflow = kept_event s k _ _ content o overflow

kept_number : (t : State) → IsOverflowed t → IsOverflowed (with_number t)
unfolding with_number
kept_number t overflow = elim overflow [ inl h ↦ inl (omega arith) | inr h ↦ inr h ]

pub kept_choice : (b : Bool) (o p : Effect) → IsOverflowed o.state → IsOverflowed p.state → IsOverflowed (cond b o p).state
kept_choice true o p a b = a
kept_choice false o p a b = b

-- where the choice of the first says why
kept_test : (b : Bool) (o p : Effect) → (b ≡ true → IsOverflowed o.state) → IsOverflowed p.state → IsOverflowed (cond b o p).state
kept_test true o p a b = a (λ i. true)
kept_test false o p a b = b

-- ---- messages

kept_sent_off : (s : Setup) (k : Key) (to : ℕ) (content : EventKind) (arrival : Option ℕ) (o : Effect) → IsOverflowed o.state → IsOverflowed (sent_off s k to content arrival o).state
kept_sent_off s k to content None o overflow = kept_number o.state overflow
kept_sent_off s k to content (Some at) o overflow = kept_event s k at to content o overflow

pub kept_posted : (s : Setup) (k : Key) (tells : What) (to value : ℕ) (content : EventKind) (arrival : Option ℕ × Words) (o : Effect) → IsOverflowed o.state → IsOverflowed (posted s k tells to value content arrival o).state
unfolding posted
kept_posted s k tells to value content arrival o overflow = kept_sent_off s k to content _ _ (kept_row k tells _ _ _ _ overflow)

pub kept_sent : (s : Setup) (k : Key) (tells : What) (to value : ℕ) (content : EventKind) (o : Effect) → IsOverflowed o.state → IsOverflowed (sent s k tells to value content o).state
kept_sent s k tells to value content o overflow = kept_posted s k tells to value content _ o overflow

-- what rides on a message raises no counter
kept_claims : (s : Setup) (queue : Option Queue) (room : ℕ) (t : State) → IsOverflowed t → IsOverflowed (without_claims s queue room t)
kept_claims s None room t overflow = overflow
kept_claims s (Some q) room t overflow = overflow

kept_riding : (profile : Profile) (s : Setup) (me : ℕ) (bearer : Bearer) (t : State) → IsOverflowed t → IsOverflowed (without_riding_by profile s me bearer t)
unfolding without_both
kept_riding Papers s me bearer t overflow = overflow
kept_riding Memberlist s me bearer t overflow = overflow
kept_riding Hashicorp s me bearer t overflow = kept_claims s s.queue (room_of s me bearer s.queue) t overflow

pub kept_ping : (s : Setup) (k : Key) (to initiator seq : ℕ) (o : Effect) → IsOverflowed o.state → IsOverflowed (ping_sent s k to initiator seq o).state
unfolding ping_sent
kept_ping s k to initiator seq o overflow = kept_sent s k _ _ _ _ _ overflow

pub kept_ping_req : (s : Setup) (k : Key) (target seq to : ℕ) (o : Effect) → IsOverflowed o.state → IsOverflowed (ping_req_sent s k target seq to o).state
unfolding ping_req_sent
kept_ping_req s k target seq to o overflow = kept_sent s k _ _ _ _ _ (kept_riding (profile_of s) s k.to (bearer.PingReq target) o.state overflow)

pub kept_ack : (s : Setup) (k : Key) (to initiator seq : ℕ) (o : Effect) → IsOverflowed o.state → IsOverflowed (ack_sent s k to initiator seq o).state
unfolding ack_sent
kept_ack s k to initiator seq o overflow = kept_sent s k _ _ _ _ _ (kept_riding (profile_of s) s k.to bearer.Ack o.state overflow)

pub kept_pings_ack : (s : Setup) (k : Key) (to initiator seq : ℕ) (o : Effect) → IsOverflowed o.state → IsOverflowed (pings_ack_sent s k to initiator seq o).state
unfolding pings_ack_sent
kept_pings_ack s k to initiator seq o overflow = kept_sent s k _ _ _ _ _ (kept_riding (profile_of s) s k.to bearer.PingsAck o.state overflow)

kept_join_to : (s : Setup) (k : Key) (contact : Option ℕ) (o : Effect) → IsOverflowed o.state → IsOverflowed (join_sent_to s k contact o).state
kept_join_to s k None o overflow = overflow
kept_join_to s k (Some contact) o overflow = kept_sent s k _ _ _ _ _ overflow

pub kept_join : (s : Setup) (k : Key) (o : Effect) → IsOverflowed o.state → IsOverflowed (join_sent s k o).state
unfolding join_sent
kept_join s k o overflow = kept_join_to s k (contact_of s k.to) o overflow

pub kept_welcome : (s : Setup) (k : Key) (to : ℕ) (o : Effect) → IsOverflowed o.state → IsOverflowed (welcome_sent s k to o).state
unfolding welcome_sent
kept_welcome s k to o overflow = kept_sent s k _ _ _ _ _ overflow

pub kept_bye : (s : Setup) (k : Key) (to : ℕ) (o : Effect) → IsOverflowed o.state → IsOverflowed (bye_sent s k to o).state
unfolding bye_sent
kept_bye s k to o overflow = kept_sent s k _ _ _ _ _ overflow

pub kept_gossip : (s : Setup) (k : Key) (to : ℕ) (o : Effect) → IsOverflowed o.state → IsOverflowed (gossip_sent s k to o).state
unfolding gossip_sent
kept_gossip s k to o overflow =
    let left = kept_riding (profile_of s) s k.to bearer.Gossip o.state overflow in
    kept_choice (nat_eq (length (riding s k bearer.Gossip o)) 0) _ _ left (kept_sent s k _ _ _ _ _ left)

pub kept_call : (s : Setup) (k : Key) (to seq : ℕ) (o : Effect) → IsOverflowed o.state → IsOverflowed (call_sent s k to seq o).state
unfolding call_sent
kept_call s k to seq o overflow = kept_posted s k _ _ _ _ _ _ overflow

pub kept_push : (s : Setup) (k : Key) (to : ℕ) (o : Effect) → IsOverflowed o.state → IsOverflowed (push_sent s k to o).state
unfolding push_sent
kept_push s k to o overflow = kept_posted s k _ _ _ _ _ _ overflow

pub kept_pull : (s : Setup) (k : Key) (to : ℕ) (o : Effect) → IsOverflowed o.state → IsOverflowed (pull_sent s k to o).state
unfolding pull_sent
kept_pull s k to o overflow = kept_posted s k _ _ _ _ _ _ overflow

-- messages one after another: a counter that overflowed before one of them still does after it
pub kept_each : (send : ℕ → Effect → Effect) → ((to : ℕ) (o : Effect) → IsOverflowed o.state → IsOverflowed (send to o).state) → (others : List ℕ) (o : Effect) → IsOverflowed o.state
    → IsOverflowed (sent_to_each send others o).state
unfolding sent_to_each
kept_each send kept [] o overflow = overflow
kept_each send kept (to ∷ others) o overflow = kept_each send kept others (send to o) (kept to o overflow)

-- ---- updates

pub kept_gossip_set : (s : Setup) (k : Key) (gossip : Option settings.Gossip) (o : Effect) → IsOverflowed o.state → IsOverflowed (gossip_set s k gossip o).state
kept_gossip_set s k None o overflow = overflow
kept_gossip_set s k (Some gossip) o overflow = kept_choice o.state.gossips _ _ overflow (kept_event s k _ _ _ _ overflow)

kept_put_up : (s : Setup) (queue : Option Queue) (u : Update) (t : State) → IsOverflowed t → IsOverflowed (put_up s queue u t)
kept_put_up s None u t overflow = overflow
kept_put_up s (Some q) u t overflow = overflow

pub kept_put : (s : Setup) (k : Key) (u : Update) (o : Effect) → IsOverflowed o.state → IsOverflowed (with_put s k u o).state
unfolding with_put
kept_put s k u o overflow = kept_gossip_set s k s.gossip (on_state (put_up s s.queue u) o) (kept_put_up s s.queue u o.state overflow)

pub kept_passed_on : (s : Setup) (k : Key) (telling : Announce) (u : Update) (o : Effect) → IsOverflowed o.state → IsOverflowed (passed_on s k telling u o).state
unfolding passed_on
kept_passed_on s k telling u o overflow = kept_choice (is_aloud telling) _ _ (kept_put s k u o overflow) overflow

pub kept_health : (k : Key) (h : LocalHealth) (o : Effect) → IsOverflowed o.state → IsOverflowed (with_health k h o).state
unfolding with_health
kept_health k h o overflow = kept_choice (nat_eq h.counter o.state.health.counter) _ _ overflow (kept_row k _ _ _ _ _ overflow)

-- a refutation when the number stands at its limit
pub overflow_refuted : (s : Setup) (k : Key) (claimed : ℕ) (o : Effect) → 2 ^ 63 ≤ claimed → IsOverflowed (refuted s k (claimed + 1) o).state
unfolding refuted
overflow_refuted s k claimed o h = kept_put s k _ _ (kept_health k _ _ (kept_row k _ _ _ _ _ (inr (inr (omega arith)))))

kept_refuted : (s : Setup) (k : Key) (claimed : ℕ) (o : Effect) → o.state.incarnation ≤ claimed → IsOverflowed o.state → IsOverflowed (refuted s k (claimed + 1) o).state
unfolding refuted
kept_refuted s k claimed o over overflow = kept_put s k _ _ (kept_health k _ _ (kept_row k _ _ _ _ _ (raised overflow)))
  where
    raised : IsOverflowed o.state → IsOverflowed (record o.state { incarnation = claimed + 1 })
    raised overflow = elim overflow [ inl h ↦ inl h | inr h ↦ inr (elim h [ inl g ↦ inl g | inr g ↦ inr (omega arith) ]) ]

kept_dead : (k : Key) (number : ℕ) (o : Effect) → IsOverflowed o.state → IsOverflowed (heard_dead k number o).state
unfolding heard_dead
kept_dead k number o overflow = kept_row k _ _ _ _ _ overflow

-- what is refuted bears one's own number at least
pub refutes_over : (profile : Profile) (own : ℕ) (claim : Claim) (number : ℕ) → does_refute profile own claim number ≡ true → own ≤ number
refutes_over Papers own Alive number refutes = absurd (false≢true refutes)
refutes_over Papers own Suspect number refutes = let same = eqb-true number own refutes in omega arith
refutes_over Papers own Confirm number refutes = absurd (false≢true refutes)
refutes_over Papers own Left number refutes = absurd (false≢true refutes)
refutes_over Papers own Intent number refutes = absurd (false≢true refutes)
refutes_over Memberlist own Alive number refutes = absurd (false≢true refutes)
refutes_over Memberlist own Suspect number refutes = leb-true own number refutes
refutes_over Memberlist own Confirm number refutes = leb-true own number refutes
refutes_over Memberlist own Left number refutes = leb-true own number refutes
refutes_over Memberlist own Intent number refutes = absurd (false≢true refutes)
refutes_over Hashicorp own Alive number refutes = let over : own < number = ltb-true own number refutes in omega arith
refutes_over Hashicorp own Suspect number refutes = leb-true own number refutes
refutes_over Hashicorp own Confirm number refutes = leb-true own number refutes
refutes_over Hashicorp own Left number refutes = leb-true own number refutes
refutes_over Hashicorp own Intent number refutes = absurd (false≢true refutes)

pub refuted_over : (profile : Profile) (t : State) (claim : Claim) (number : ℕ) → is_refuted profile t claim number ≡ true → t.incarnation ≤ number
refuted_over Papers t claim number refutes = refutes_over Papers t.incarnation claim number refutes
refuted_over Memberlist t claim number refutes = refutes_over Memberlist t.incarnation claim number refutes
refuted_over Hashicorp t claim number refutes = refutes_over Hashicorp t.incarnation claim number (and_parts _ _ refutes).1

kept_own : (s : Setup) (k : Key) (claim : Claim) (number : ℕ) (o : Effect) → IsOverflowed o.state → IsOverflowed (own_applied s k claim number o).state
kept_own s k claim number o overflow =
    kept_test (is_refuted (profile_of s) o.state claim number) _ _
    (λ refutes. kept_refuted s k number o (refuted_over (profile_of s) o.state claim number refutes) overflow)
    (kept_choice (is_own_death (profile_of s) claim o.state.heard_dead) _ _ (kept_dead k number o overflow) overflow)

kept_told : (telling : Announce) (k : Key) (tells : What) (subject value : ℕ) (o : Effect) → IsOverflowed o.state → IsOverflowed (with_told telling k tells subject value o).state
kept_told telling k tells subject value o overflow = kept_choice (is_aloud telling) _ _ (kept_row k _ _ _ _ _ overflow) overflow

pub kept_state : (b : Bool) (t v : State) → IsOverflowed t → IsOverflowed v → IsOverflowed (cond b t v)
kept_state true t v a b = a
kept_state false t v a b = b

pub kept_claim : (u : Update) (t : State) → IsOverflowed t → IsOverflowed (claim_kept u t)
unfolding claim_kept
kept_claim u t overflow = kept_state (is_confirm u.claim) _ _ overflow (kept_state (is_probed (get t.table u.subject)) _ _ overflow overflow)

kept_turn_of : (held : Option (Claim × ℕ)) (subject : ℕ) (t : State) → IsOverflowed t → IsOverflowed (with_turn_of held subject t)
kept_turn_of None subject t overflow = overflow
kept_turn_of (Some held) subject t overflow = kept_state (is_confirm held.0) _ _ overflow overflow

kept_newcomer : (u : Update) (t : State) → IsOverflowed t → IsOverflowed (newcomer_kept u t)
unfolding newcomer_kept
kept_newcomer u t overflow = kept_state (is_confirm u.claim) _ _ overflow (kept_turn_of (get t.table u.subject) u.subject (with_claim u t) overflow)

pub kept_claim_by : (profile : Profile) (u : Update) (t : State) → IsOverflowed t → IsOverflowed (claim_kept_by profile u t)
kept_claim_by Papers u t overflow = kept_claim u t overflow
kept_claim_by Memberlist u t overflow = kept_claim u t overflow
kept_claim_by Hashicorp u t overflow = kept_newcomer u t overflow

pub kept_death : (profile : Profile) (subject now : ℕ) (t : State) → IsOverflowed t → IsOverflowed (death_kept profile subject now t)
kept_death Papers subject now t overflow = overflow
kept_death Memberlist subject now t overflow = overflow
kept_death Hashicorp subject now t overflow = overflow

pub kept_claim_heard : (s : Setup) (telling : Announce) (k : Key) (u : Update) (claim : Claim) (o : Effect) → IsOverflowed o.state → IsOverflowed (claim_heard s telling k u claim o).state
unfolding alive_heard suspect_heard confirm_heard left_heard
kept_claim_heard s telling k u Alive o overflow = kept_told telling k _ _ _ _ overflow
kept_claim_heard s telling k u Suspect o overflow = kept_event s k _ _ _ _ (kept_told telling k _ _ _ _ overflow)
kept_claim_heard s telling k u Confirm o overflow = kept_told telling k _ _ _ _ (kept_death (profile_of s) u.subject k.at (without_suspicion u.subject o.state) overflow)
kept_claim_heard s telling k u Left o overflow = kept_told telling k _ _ _ _ (kept_death (profile_of s) u.subject k.at (without_suspicion u.subject o.state) overflow)
kept_claim_heard s telling k u Intent o overflow = overflow

kept_regard : (now : ℕ) (u : Update) (t : State) → IsOverflowed t → IsOverflowed (regard_kept now u t)
kept_regard now u t overflow = kept_state (is_alive u.claim) _ _ overflow (kept_state (is_confirm u.claim) _ _ overflow overflow)

pub kept_regards : (serf : Option Serf) (now : ℕ) (u : Update) (t : State) → IsOverflowed t → IsOverflowed (regards_kept serf now u t)
kept_regards None now u t overflow = overflow
kept_regards (Some serf) now u t overflow = kept_regard now u t overflow

pub kept_news : (s : Setup) (telling : Announce) (k : Key) (u : Update) (o : Effect) → IsOverflowed o.state → IsOverflowed (news_heard s telling k u o).state
unfolding news_heard
kept_news s telling k u o overflow =
    let kept = on_state (claim_kept_by (profile_of s) u) o in
    kept_passed_on s k telling u _
    (kept_claim_heard s telling k u u.claim (on_state (regards_kept s.serf k.at u) kept) (kept_regards s.serf k.at u kept.state (kept_claim_by (profile_of s) u o.state overflow)))

kept_counted : (s : Setup) (telling : Announce) (k : Key) (u : Update) (accused : Option Accused) (o : Effect) → IsOverflowed o.state → IsOverflowed (accusation_counted s telling k u accused o).state
kept_counted s telling k u None o overflow = overflow
kept_counted s telling k u (Some accused) o overflow = kept_passed_on s k telling u _ (kept_event s k _ _ _ _ (kept_told telling k _ _ _ _ overflow))

kept_accusation : (s : Setup) (telling : Announce) (k : Key) (u : Update) (o : Effect) → IsOverflowed o.state → IsOverflowed (accusation_heard s telling k u o).state
unfolding accusation_heard
kept_accusation s telling k u o overflow = kept_counted s telling k u _ _ overflow

kept_accused_confirmed : (s : Setup) (telling : Announce) (k : Key) (u : Update) (number : ℕ) (accused : Accused) (o : Effect) → IsOverflowed o.state
    → IsOverflowed (accused_confirmed s telling k u number accused o).state
kept_accused_confirmed s telling k u number accused o overflow =
    kept_news s telling k (death_of k.to u.subject number) _ (kept_passed_on s k telling u _ (kept_told telling k _ _ _ _ overflow))

kept_answered : (s : Setup) (telling : Announce) (k : Key) (u : Update) (number : ℕ) (accused : Option Accused) (o : Effect) → IsOverflowed o.state
    → IsOverflowed (accusation_answered s telling k u number accused o).state
kept_answered s telling k u number None o overflow = overflow
kept_answered s telling k u number (Some accused) o overflow =
    kept_choice (is_over_of o.state.suspicions u.subject k.at) _ _ (kept_accused_confirmed s telling k u number accused o overflow) (kept_counted s telling k u (Some accused) o overflow)

kept_prompt : (s : Setup) (telling : Announce) (k : Key) (u : Update) (number : ℕ) (o : Effect) → IsOverflowed o.state → IsOverflowed (prompt_accusation_heard s telling k u number o).state
unfolding prompt_accusation_heard
kept_prompt s telling k u number o overflow = kept_answered s telling k u number _ _ overflow

kept_accusation_by : (profile : Profile) (s : Setup) (telling : Announce) (k : Key) (u : Update) (number : ℕ) (o : Effect) → IsOverflowed o.state
    → IsOverflowed (accusation_by profile s telling k u number o).state
kept_accusation_by Papers s telling k u number o overflow = kept_accusation s telling k u o overflow
kept_accusation_by Memberlist s telling k u number o overflow = kept_accusation s telling k u o overflow
kept_accusation_by Hashicorp s telling k u number o overflow = kept_prompt s telling k u number o overflow

kept_other : (s : Setup) (telling : Announce) (k : Key) (u : Update) (held : Option (Claim × ℕ)) (o : Effect) → IsOverflowed o.state → IsOverflowed (other_applied s telling k u held o).state
kept_other s telling k u None o overflow = kept_choice (is_heeded (profile_of s) telling u.claim) _ _ (kept_news s telling k u o overflow) overflow
kept_other s telling k u (Some held) o overflow =
    kept_choice (does_override (profile_of s) (u.claim, u.inc) held) _ _ (kept_news s telling k u o overflow)
    (kept_choice (is_repeated (profile_of s) u held) _ _ (kept_accusation_by (profile_of s) s telling k u held.1 o overflow) overflow)

kept_claim_applied : (s : Setup) (telling : Announce) (k : Key) (u : Update) (o : Effect) → IsOverflowed o.state → IsOverflowed (claim_applied s telling k u o).state
unfolding claim_applied
kept_claim_applied s telling k u o overflow =
    kept_choice (nat_eq u.subject k.to) _ _ (kept_own s k u.claim u.inc o overflow) (kept_other s telling k u (get o.state.table u.subject) o overflow)

kept_intent : (s : Setup) (k : Key) (u : Update) (serf : Option Serf) (o : Effect) → IsOverflowed o.state → IsOverflowed (intent_applied s k u serf o).state
kept_intent s k u None o overflow = overflow
kept_intent s k u (Some serf) o overflow = kept_choice (is_known_intent k.to u.subject o.state) _ _ overflow (kept_gossip_set s k s.gossip _ overflow)

pub kept_applied : (s : Setup) (telling : Announce) (k : Key) (u : Update) (o : Effect) → IsOverflowed o.state → IsOverflowed (applied s telling k u o).state
unfolding applied
kept_applied s telling k u o overflow =
    kept_choice (is_intent u.claim) _ _ (kept_intent s k u s.serf o overflow) (kept_claim_applied s telling k u o overflow)

pub kept_all : (s : Setup) (telling : Announce) (k : Key) (us : List Update) (o : Effect) → IsOverflowed o.state → IsOverflowed (all_applied s telling k us o).state
unfolding all_applied
kept_all s telling k [] o overflow = overflow
kept_all s telling k (u ∷ us) o overflow = kept_all s telling k us (applied s telling k u o) (kept_applied s telling k u o overflow)

pub kept_merged : (s : Setup) (k : Key) (us : List Update) (o : Effect) → IsOverflowed o.state → IsOverflowed (merged s k us o).state
unfolding merged
kept_merged s k us o overflow = kept_all s Aloud k _ o overflow

-- ---- probes

kept_suspected : (s : Setup) (k : Key) (target : ℕ) (held : Option (Claim × ℕ)) (o : Effect) → IsOverflowed o.state → IsOverflowed (suspected s k target held o).state
kept_suspected s k target None o overflow = overflow
kept_suspected s k target (Some held) o overflow = kept_choice (is_confirm held.0) _ _ overflow (kept_applied s Aloud k _ o overflow)

kept_failed : (s : Setup) (k : Key) (probe : Probe) (o : Effect) → IsOverflowed o.state → IsOverflowed (probe_failed s k probe o).state
unfolding probe_failed
kept_failed s k probe o overflow = kept_suspected s k probe.target _ _ (kept_health k _ _ (kept_row k _ _ _ _ _ overflow))

pub kept_probe_ended : (s : Setup) (k : Key) (probe : Option Probe) (o : Effect) → IsOverflowed o.state → IsOverflowed (probe_ended s k probe o).state
unfolding probe_ended
kept_probe_ended s k None o overflow = overflow
kept_probe_ended s k (Some probe) o overflow = kept_choice probe.acked _ _ (kept_health k _ _ overflow) (kept_failed s k probe o overflow)

-- a probe when the sequence number stands at its limit
pub overflow_probe : (s : Setup) (k : Key) (target : ℕ) (o : Effect) → 2 ^ 63 ≤ o.state.sequence → IsOverflowed (probe_begun s k target o).state
unfolding probe_begun
overflow_probe s k target o h = kept_timer s k _ _ _ (kept_ping s k _ _ _ _ (inr (inl (omega arith))))

kept_more : (t : State) (p : Option Probe) → IsOverflowed t → IsOverflowed (record t { sequence = t.sequence + 1; probe = p })
kept_more t p overflow = elim overflow [ inl h ↦ inl h | inr h ↦ inr (elim h [ inl g ↦ inl (omega arith) | inr g ↦ inr g ]) ]

kept_begun : (s : Setup) (k : Key) (target : ℕ) (o : Effect) → IsOverflowed o.state → IsOverflowed (probe_begun s k target o).state
unfolding probe_begun
kept_begun s k target o overflow = kept_timer s k _ _ _ (kept_ping s k _ _ _ _ (kept_more o.state (Some (fresh_probe (o.state.sequence + 1) target)) overflow))

kept_target : (s : Setup) (k : Key) (target : Option ℕ) (o : Effect) → IsOverflowed o.state → IsOverflowed (target_probed s k target o).state
kept_target s k None o overflow = overflow
kept_target s k (Some target) o overflow = kept_begun s k target o overflow

pub kept_next : (s : Setup) (k : Key) (o : Effect) → IsOverflowed o.state → IsOverflowed (next_probed s k o).state
unfolding next_probed
kept_next s k o overflow = kept_target s k _ _ overflow

pub kept_relay : (s : Setup) (k : Key) (seq : ℕ) (o : Effect) → IsOverflowed o.state → IsOverflowed (with_relay s k seq o).state
kept_relay s k seq o overflow = kept_timer s k _ _ _ overflow

-- an answer that is owed, or not
pub kept_owed : (s : Setup) (k : Key) (seq : ℕ) (o : Effect) → IsOverflowed o.state → IsOverflowed (cond s.lifeguard.probe (with_relay s k seq o) o).state
kept_owed s k seq o overflow = kept_choice s.lifeguard.probe _ _ (kept_relay s k seq o overflow) overflow

pub kept_taken : (s : Setup) (k : Key) (initiator seq : ℕ) (o : Effect) → IsOverflowed o.state → IsOverflowed (ack_taken s k initiator seq o).state
unfolding ack_taken
kept_taken s k initiator seq o overflow = kept_choice (nat_eq initiator k.to) _ _ overflow (kept_ack s k initiator initiator seq _ overflow)

-- a counter that overflows with the ping of a new probe
pub overflow_pinged : (s : Setup) (k : Key) (target : ℕ) (o : Effect) (p : Probe) → p ≡ fresh_probe (o.state.sequence + 1) target
    → IsOverflowed (ping_sent s k target k.to (o.state.sequence + 1) (on_state (λ t. record t { sequence = o.state.sequence + 1; probe = Some p }) o)).state
    → IsOverflowed (probe_begun s k target o).state
unfolding probe_begun
overflow_pinged s k target o p is overflow =
    kept_timer s k _ _ _
    (subst (λ (q : Probe). IsOverflowed (ping_sent s k target k.to (o.state.sequence + 1) (on_state (λ t. record t { sequence = o.state.sequence + 1; probe = Some q }) o)).state) is overflow)

kept_push_begun : (profile : Profile) (s : Setup) (k : Key) (beat push : ℕ) (o : Effect) → IsOverflowed o.state → IsOverflowed (push_begun_by profile s k beat push o).state
unfolding push_begun even_push_begun
kept_push_begun Papers s k beat push o overflow = kept_event s k _ _ _ _ overflow
kept_push_begun Memberlist s k beat push o overflow = kept_event s k _ _ _ _ overflow
kept_push_begun Hashicorp s k beat push o overflow = kept_event s k _ _ _ _ overflow

pub kept_first_push : (s : Setup) (k : Key) (beat : ℕ) (gossip : Option settings.Gossip) (o : Effect) → IsOverflowed o.state → IsOverflowed (first_push_set s k beat gossip o).state
kept_first_push s k beat None o overflow = overflow
kept_first_push s k beat (Some gossip) o overflow = kept_choice (nat_eq gossip.push 0) _ _ overflow (kept_push_begun (profile_of s) s k beat gossip.push o overflow)

pub kept_first_period : (s : Setup) (k : Key) (o : Effect) → IsOverflowed o.state → IsOverflowed (first_period_set s k o).state
unfolding first_period_set
kept_first_period s k o overflow = kept_first_push s k _ s.gossip _ (kept_timer s k _ _ _ overflow)

-- ---- probes by memberlist's rules

kept_suspected_at : (s : Setup) (k : Key) (probe : Probe) (held : Option (Claim × ℕ)) (o : Effect) → IsOverflowed o.state → IsOverflowed (suspected_at s k probe held o).state
kept_suspected_at s k probe None o overflow = overflow
kept_suspected_at s k probe (Some held) o overflow = kept_choice (is_confirm held.0) _ _ overflow (kept_applied s Aloud k _ o overflow)

kept_timed_failed : (s : Setup) (k : Key) (probe : Probe) (o : Effect) → IsOverflowed o.state → IsOverflowed (timed_probe_failed s k probe o).state
unfolding timed_probe_failed
kept_timed_failed s k probe o overflow = kept_suspected_at s k probe _ _ (kept_health k _ _ (kept_row k _ _ _ _ _ overflow))

pub kept_settled : (s : Setup) (k : Key) (probe : Option Probe) (o : Effect) → IsOverflowed o.state → IsOverflowed (probe_settled s k probe o).state
unfolding probe_settled
kept_settled s k None o overflow = overflow
kept_settled s k (Some probe) o overflow = kept_choice probe.reached _ _ (kept_health k _ _ overflow) (kept_timed_failed s k probe _ overflow)

pub kept_deadline : (s : Setup) (k : Key) (next_beat : Option ℕ) (seq deadline : ℕ) (o : Effect) → IsOverflowed o.state → IsOverflowed (deadline_set s k next_beat seq deadline o).state
kept_deadline s k next_beat seq deadline o overflow = kept_choice (needs_timer next_beat deadline) _ _ (kept_event s k _ _ _ _ overflow) (kept_number o.state overflow)

kept_timers : (s : Setup) (k : Key) (next_beat : Option ℕ) (seq timeout deadline : ℕ) (o : Effect) → IsOverflowed o.state → IsOverflowed (probe_timers_set s k next_beat seq timeout deadline o).state
kept_timers s k next_beat seq timeout deadline o overflow = kept_deadline s k next_beat seq deadline _ (kept_timer s k _ _ _ overflow)

-- a probe when the sequence number stands at its limit
pub overflow_timed_probe : (s : Setup) (k : Key) (next_beat : Option ℕ) (target : ℕ) (o : Effect) → 2 ^ 63 ≤ o.state.sequence → IsOverflowed (timed_probe_begun s k next_beat target o).state
unfolding timed_probe_begun
overflow_timed_probe s k next_beat target o h = kept_timers s k next_beat _ _ _ _ (kept_ping s k _ _ _ _ (inr (inl (omega arith))))

kept_timed_begun : (s : Setup) (k : Key) (next_beat : Option ℕ) (target : ℕ) (o : Effect) → IsOverflowed o.state → IsOverflowed (timed_probe_begun s k next_beat target o).state
unfolding timed_probe_begun
kept_timed_begun s k next_beat target o overflow =
    kept_timers s k next_beat _ _ _ _
    (kept_ping s k _ _ _ _
    (kept_more o.state (Some (timed_probe (o.state.sequence + 1) target (option_map_or (λ held. held.1) (get o.state.table target) 0) (k.at + scaled o.state.health s.swim.period))) overflow))

kept_timed_target : (s : Setup) (k : Key) (next_beat target : Option ℕ) (o : Effect) → IsOverflowed o.state → IsOverflowed (timed_target_probed s k next_beat target o).state
kept_timed_target s k next_beat None o overflow = overflow
kept_timed_target s k next_beat (Some target) o overflow = kept_timed_begun s k next_beat target o overflow

pub kept_next_timed : (s : Setup) (k : Key) (next_beat : Option ℕ) (o : Effect) → IsOverflowed o.state → IsOverflowed (next_timed_probed s k next_beat o).state
unfolding next_timed_probed
kept_next_timed s k next_beat o overflow = kept_timed_target s k next_beat _ _ overflow

pub kept_waiting : (s : Setup) (k : Key) (o : Effect) → IsOverflowed o.state → IsOverflowed (waiting_probed s k o).state
kept_waiting s k o overflow = kept_choice o.state.waits _ _ (kept_next_timed s k None _ overflow) overflow

pub kept_timed_answered : (s : Setup) (k : Key) (seq : ℕ) (o : Effect) → IsOverflowed o.state → IsOverflowed (timed_answered s k seq o).state
unfolding timed_answered
kept_timed_answered s k seq o overflow = kept_choice _ _ _ (kept_waiting s k _ (kept_health k _ _ overflow)) overflow

pub kept_called : (s : Setup) (k : Key) (probe : Probe) (o : Effect) → IsOverflowed o.state → IsOverflowed (called s k probe o).state
kept_called s k probe o overflow = kept_choice s.swim.fallback _ _ (kept_call s k _ _ o overflow) overflow

pub kept_in_turn : (s : Setup) (k : Key) (next_beat : ℕ) (o : Effect) → IsOverflowed o.state → IsOverflowed (probed_in_turn s k next_beat o).state
kept_in_turn s k next_beat o overflow =
    kept_choice (has_time k.at o.state.probe) _ _ overflow (kept_next_timed s k (Some next_beat) _ (kept_settled s k o.state.probe o overflow))

pub kept_timed_taken : (s : Setup) (k : Key) (initiator seq : ℕ) (o : Effect) → IsOverflowed o.state → IsOverflowed (timed_ack_taken s k initiator seq o).state
kept_timed_taken s k initiator seq o overflow = kept_choice (nat_eq initiator k.to) _ _ (kept_timed_answered s k seq o overflow) (kept_taken s k initiator seq o overflow)

-- a counter that overflows with the ping of a new probe
pub overflow_timed_pinged : (s : Setup) (k : Key) (next_beat : Option ℕ) (target deadline : ℕ) (o : Effect) (p : Probe) → deadline ≡ k.at + scaled o.state.health s.swim.period
    → p ≡ timed_probe (o.state.sequence + 1) target (option_map_or (λ held. held.1) (get o.state.table target) 0) deadline
    → IsOverflowed (ping_sent s k target k.to (o.state.sequence + 1) (on_state (λ t. record t { sequence = o.state.sequence + 1; probe = Some p }) o)).state
    → IsOverflowed (timed_probe_begun s k next_beat target o).state
unfolding timed_probe_begun
overflow_timed_pinged s k next_beat target deadline o p at is overflow =
    kept_timers s k next_beat _ _ _ _
    (subst (λ (q : Probe). IsOverflowed (ping_sent s k target k.to (o.state.sequence + 1) (on_state (λ t. record t { sequence = o.state.sequence + 1; probe = Some q }) o)).state)
    (is ∙ ap (timed_probe (o.state.sequence + 1) target (option_map_or (λ held. held.1) (get o.state.table target) 0)) at) overflow)

pub kept_gossip_set_again : (s : Setup) (k : Key) (o : Effect) → IsOverflowed o.state → IsOverflowed (gossip_set_again s k o).state
kept_gossip_set_again s k o overflow = kept_choice _ _ _ overflow (kept_gossip_set s k s.gossip o overflow)

-- ---- probes by memberlist 0.5.0's rules

pub kept_plain_ping : (s : Setup) (k : Key) (to initiator seq : ℕ) (o : Effect) → IsOverflowed o.state → IsOverflowed (plain_ping_sent s k to initiator seq o).state
unfolding plain_ping_sent
kept_plain_ping s k to initiator seq o overflow = kept_sent s k _ _ _ _ _ (kept_riding (profile_of s) s k.to (bearer.Ping to) o.state overflow)

kept_lone : (s : Setup) (k : Key) (to seq : ℕ) (buddy : Option Update) (o : Effect) → IsOverflowed o.state → IsOverflowed (ping_with_lone s k to seq buddy o).state
kept_lone s k to seq None o overflow = kept_plain_ping s k to k.to seq o overflow
kept_lone s k to seq (Some buddy) o overflow = kept_sent s k _ _ _ _ _ overflow

pub kept_probe_ping : (s : Setup) (k : Key) (to seq : ℕ) (o : Effect) → IsOverflowed o.state → IsOverflowed (probe_ping_sent s k to seq o).state
unfolding probe_ping_sent
kept_probe_ping s k to seq o overflow = kept_lone s k to seq _ o overflow

pub kept_between_beats : (s : Setup) (k : Key) (seq deadline : ℕ) (o : Effect) → IsOverflowed o.state → IsOverflowed (deadline_between_beats s k seq deadline o).state
kept_between_beats s k seq deadline o overflow = kept_choice (is_in_step o.state.beat s.swim.period deadline) _ _ (kept_number o.state overflow) (kept_event s k _ _ _ _ overflow)

kept_both_timers : (s : Setup) (k : Key) (seq timeout deadline : ℕ) (o : Effect) → IsOverflowed o.state → IsOverflowed (both_timers_set s k seq timeout deadline o).state
kept_both_timers s k seq timeout deadline o overflow = kept_between_beats s k seq deadline _ (kept_timer s k _ _ _ overflow)

-- a probe when the sequence number stands at its limit
pub overflow_single_probe : (s : Setup) (k : Key) (target : ℕ) (o : Effect) → 2 ^ 63 ≤ o.state.sequence → IsOverflowed (single_probe_begun s k target o).state
unfolding single_probe_begun
overflow_single_probe s k target o h = kept_both_timers s k _ _ _ _ (kept_probe_ping s k _ _ _ (inr (inl (omega arith))))

kept_single_begun : (s : Setup) (k : Key) (target : ℕ) (o : Effect) → IsOverflowed o.state → IsOverflowed (single_probe_begun s k target o).state
unfolding single_probe_begun
kept_single_begun s k target o overflow =
    kept_both_timers s k _ _ _ _
    (kept_probe_ping s k _ _ _
    (kept_more o.state (Some (timed_probe (o.state.sequence + 1) target (option_map_or (λ held. held.1) (get o.state.table target) 0) (k.at + scaled o.state.health s.swim.period))) overflow))

-- a probe whose ping departs later
pub overflow_blocked_probe : (s : Setup) (k : Key) (target departs : ℕ) (o : Effect) → 2 ^ 63 ≤ o.state.sequence → IsOverflowed (blocked_probe_begun s k target departs o).state
unfolding blocked_probe_begun
overflow_blocked_probe s k target departs o h = kept_event s k _ _ _ _ (kept_event s k _ _ _ _ (kept_probe_ping s k _ _ _ (inr (inl (omega arith)))))

kept_blocked_begun : (s : Setup) (k : Key) (target departs : ℕ) (o : Effect) → IsOverflowed o.state → IsOverflowed (blocked_probe_begun s k target departs o).state
unfolding blocked_probe_begun
kept_blocked_begun s k target departs o overflow =
    let deadline = max (k.at + scaled o.state.health s.swim.period) departs in
    kept_event s k _ _ _ _
    (kept_event s k _ _ _ _
    (kept_probe_ping s k _ _ _
    (kept_more o.state (Some (timed_probe (o.state.sequence + 1) target (option_map_or (λ held. held.1) (get o.state.table target) 0) deadline)) overflow)))

kept_departing : (s : Setup) (k : Key) (target departs : ℕ) (o : Effect) → IsOverflowed o.state → IsOverflowed (departing_probe_begun s k target departs o).state
kept_departing s k target departs o overflow =
    kept_choice (nat_lt k.at departs) _ _ (kept_blocked_begun s k target departs o overflow) (kept_single_begun s k target o overflow)

kept_single_target : (s : Setup) (k : Key) (target : Option ℕ) (o : Effect) → IsOverflowed o.state → IsOverflowed (single_target_probed s k target o).state
kept_single_target s k None o overflow = overflow
kept_single_target s k (Some target) o overflow = kept_departing s k target (departs_at s k) o overflow

pub kept_turn_probed : (s : Setup) (k : Key) (o : Effect) → IsOverflowed o.state → IsOverflowed (turn_probed s k o).state
unfolding turn_probed
kept_turn_probed s k o overflow = kept_single_target s k _ _ overflow

pub kept_next_single : (s : Setup) (k : Key) (o : Effect) → IsOverflowed o.state → IsOverflowed (next_single_probed s k o).state
unfolding next_single_probed
kept_next_single s k o overflow = kept_turn_probed s k _ (overflow_ended s k o overflow)

pub kept_if_waiting : (s : Setup) (k : Key) (o : Effect) → IsOverflowed o.state → IsOverflowed (next_if_waiting s k o).state
kept_if_waiting s k o overflow = kept_choice o.state.waits _ _ (kept_next_single s k _ overflow) overflow

kept_next_of_beat : (s : Setup) (k : Key) (o : Effect) → IsOverflowed o.state → IsOverflowed (next_of_beat s k o).state
kept_next_of_beat s k o overflow = kept_next_single s k _ (kept_settled s k o.state.probe _ overflow)

pub kept_beat_taken : (s : Setup) (k : Key) (o : Effect) → IsOverflowed o.state → IsOverflowed (single_beat_taken s k o).state
kept_beat_taken s k o overflow = kept_choice (has_time k.at o.state.probe) _ _ overflow (kept_next_of_beat s k o overflow)

-- a counter that the ping of a new probe wears
pub overflow_single_pinged : (s : Setup) (k : Key) (target deadline : ℕ) (o : Effect) (p : Probe) → deadline ≡ k.at + scaled o.state.health s.swim.period
    → p ≡ timed_probe (o.state.sequence + 1) target (option_map_or (λ held. held.1) (get o.state.table target) 0) deadline
    → IsOverflowed (probe_ping_sent s k target (o.state.sequence + 1) (on_state (λ t. record t { sequence = o.state.sequence + 1; probe = Some p }) o)).state
    → IsOverflowed (single_probe_begun s k target o).state
unfolding single_probe_begun
overflow_single_pinged s k target deadline o p at is overflow =
    kept_both_timers s k _ _ _ _
    (subst (λ (q : Probe). IsOverflowed (probe_ping_sent s k target (o.state.sequence + 1) (on_state (λ t. record t { sequence = o.state.sequence + 1; probe = Some q }) o)).state)
    (is ∙ ap (timed_probe (o.state.sequence + 1) target (option_map_or (λ held. held.1) (get o.state.table target) 0)) at) overflow)

-- the same of a probe whose ping departs later
pub overflow_blocked_pinged : (s : Setup) (k : Key) (target departs deadline : ℕ) (o : Effect) (p : Probe) → deadline ≡ max (k.at + scaled o.state.health s.swim.period) departs
    → p ≡ timed_probe (o.state.sequence + 1) target (option_map_or (λ held. held.1) (get o.state.table target) 0) deadline
    → IsOverflowed (probe_ping_sent s k target (o.state.sequence + 1) (on_state (λ t. record t { sequence = o.state.sequence + 1; probe = Some p }) o)).state
    → IsOverflowed (blocked_probe_begun s k target departs o).state
unfolding blocked_probe_begun
overflow_blocked_pinged s k target departs deadline o p at is overflow =
    kept_event s k _ _ _ _
    (kept_event s k _ _ _ _
    (subst (λ (q : Probe). IsOverflowed (probe_ping_sent s k target (o.state.sequence + 1) (on_state (λ t. record t { sequence = o.state.sequence + 1; probe = Some q }) o)).state)
    (is ∙ ap (timed_probe (o.state.sequence + 1) target (option_map_or (λ held. held.1) (get o.state.table target) 0)) at) overflow))

-- whatever the event is, it raises the same counter
event_any : (s : Setup) (k : Key) (at to : ℕ) (content : EventKind) (at' to' : ℕ) (content' : EventKind) (o : Effect) → IsOverflowed (with_event s k at to content o).state
    → IsOverflowed (with_event s k at' to' content' o).state
unfolding with_event
event_any s k at to content at' to' content' o overflow = overflow

-- the same of its first timer
pub overflow_blocked_timer : (s : Setup) (k : Key) (target departs deadline at : ℕ) (content : EventKind) (o sent : Effect) (p : Probe) → deadline ≡ max (k.at + scaled o.state.health s.swim.period) departs
    → p ≡ timed_probe (o.state.sequence + 1) target (option_map_or (λ held. held.1) (get o.state.table target) 0) deadline
    → sent ≡ probe_ping_sent s k target (o.state.sequence + 1) (on_state (λ t. record t { sequence = o.state.sequence + 1; probe = Some p }) o)
    → IsOverflowed (with_event s k at k.to content sent).state → IsOverflowed (blocked_probe_begun s k target departs o).state
unfolding blocked_probe_begun
overflow_blocked_timer s k target departs deadline at content o sent p limit is made overflow =
    let pinged : Probe → Effect = λ q. probe_ping_sent s k target (o.state.sequence + 1) (on_state (λ t. record t { sequence = o.state.sequence + 1; probe = Some q }) o) in
    let wanted = is ∙ ap (timed_probe (o.state.sequence + 1) target (option_map_or (λ held. held.1) (get o.state.table target) 0)) limit in
    kept_event s k _ _ _ _
    (event_any s k at k.to content _ _ _ _ (subst (λ (e : Effect). IsOverflowed (with_event s k at k.to content e).state) (made ∙ ap pinged wanted) overflow))
