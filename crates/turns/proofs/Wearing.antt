-- A counter past its limit stays so through every step.
use Rattle.std.proofs.Common.{◌≡◌, ℕ, nat_eq, nat_lt, ◌<◌, ◌^◌, Bool, true, false, cond, List, Option, Some, None, refl, arith, inl, inr}
use Rattle.base.specs.declared.key.Key.{Key}
use Rattle.std.specs.FinSet as set
use Rattle.scenario.specs.Setup.{Setup, start_of}
use Rattle.base.specs.declared.profile.Profile.{Profile}
use Rattle.base.specs.declared.profile.Profile.TheVariants.{Papers, Memberlist, Hashicorp}
use Rattle.scenario.specs.Profile.{profile_of}
use Rattle.scenario.specs.declared.settings.Gossip as settings
use Rattle.incarnation.specs.declared.Claim.{Claim}
use Rattle.incarnation.specs.declared.Update.{Update}
use Rattle.lifeguard.specs.declared.probe.Probe.{Probe}
use Rattle.member.specs.declared.member.Phase.{Phase}
use Rattle.member.specs.declared.member.Phase.TheVariants.{Waiting, Joining, Running, Down}
use Rattle.member.specs.declared.event_kind.EventKind.{EventKind}
use Rattle.member.specs.declared.event_kind.EventKind.TheVariants.{Start, Crash, Leave, JoinTimer, PeriodTimer, TimeoutTimer, NackTimer, SuspicionTimer, Join, Welcome, Ping, PingReq, Ack, Nack, Bye, DeadlineTimer, GossipTimer, PushTimer, Call, Answer, Gossip, Push, Pull}
use Rattle.member.specs.declared.announce.Announce.TheVariants.{Aloud, Quietly}
use Rattle.member.specs.State.{State}
use Rattle.member.specs.Effects.{Effect, on_state, with_row, with_event}
use Rattle.member.specs.FirstRounds.{first_round}
use Rattle.membership.specs.Table.{all_alive}
use Rattle.probing.specs.ProbeOrder.{round_over}
use Rattle.member.specs.Send.{ping_req_sent, nack_sent, bye_sent, gossip_sent, answer_sent, push_sent, pull_sent}
use Rattle.base.specs.Beats.{next_in_step}
use Rattle.member.specs.LoneBuddy.{plain_ping_sent}
use Rattle.member.specs.SingleBeat.{single_beaten, single_deadline_over, single_answered}
use Rattle.member.specs.LateAcks.{ping_answered, help_asked_for, single_ack_taken, single_ack_heard, help_over}
use Rattle.member.specs.Step.{single_handled, period_beaten, is_under_way, deadline_over, timed_ack_heard, sampled_help, timed_out_timed, answer_heard, is_told_out, gossip_spread, gossip_due, pushed, push_due, push_heard, timed_handled, first_others, began, joining_begun, started, crashed, join_asked, join_handled, joined, period_begun, timed_out, help_asked, ping_heard, ping_req_heard, ack_heard, nack_due, nack_heard, confirmed, suspicion_over, withdrawn, byes_said, departed, plain_handled, handled}
use Rattle.member.specs.CounterOverflow.{IsOverflowed}
use Rattle.member.proofs.CounterOverflow.{kept_event, kept_posted, kept_gossip, kept_push, kept_merged, kept_in_turn, kept_waiting, kept_settled, kept_timed_taken, kept_called, kept_gossip_set_again, kept_row, kept_timer, kept_sent, kept_ping, kept_ping_req, kept_ack, kept_pings_ack, kept_join, kept_welcome, kept_bye, kept_each, kept_applied, kept_all, kept_probe_ended, kept_next, kept_owed, kept_taken, kept_first_period, kept_health, kept_beat_taken, kept_if_waiting, kept_plain_ping, kept_relay}

pub either_overflow : (b : Bool) (o p : Effect) → IsOverflowed o.state → IsOverflowed p.state → IsOverflowed (cond b o p).state
either_overflow true o p first second = first
either_overflow false o p first second = second

pub kept_crashed : (k : Key) (o : Effect) → IsOverflowed o.state → IsOverflowed (crashed k o).state
unfolding crashed
kept_crashed k o overflow = kept_row k _ _ _ _ _ overflow

kept_join_asked : (s : Setup) (k : Key) (o : Effect) → IsOverflowed o.state → IsOverflowed (join_asked s k o).state
unfolding join_asked
kept_join_asked s k o overflow = kept_timer s k _ _ _ (kept_join s k o overflow)

kept_join_handled : (s : Setup) (k : Key) (o : Effect) → IsOverflowed o.state → IsOverflowed (join_handled s k o).state
unfolding join_handled
kept_join_handled s k o overflow = kept_welcome s k _ _ (kept_applied s Aloud k _ o overflow)

kept_joined : (s : Setup) (k : Key) (entries : List Update) (o : Effect) → IsOverflowed o.state → IsOverflowed (joined s k entries o).state
unfolding joined
kept_joined s k entries o overflow = kept_first_period s k _ (kept_all s Quietly k entries _ (kept_row k _ _ _ _ _ overflow))

kept_period : (s : Setup) (k : Key) (o : Effect) → IsOverflowed o.state → IsOverflowed (period_begun s k o).state
unfolding period_begun
kept_period s k o overflow = kept_timer s k _ _ _ (kept_next s k _ (kept_probe_ended s k _ o overflow))

kept_help : (s : Setup) (k : Key) (probe : Probe) (o : Effect) → IsOverflowed o.state → IsOverflowed (help_asked s k probe o).state
unfolding help_asked
kept_help s k probe o overflow =
    either_overflow s.lifeguard.probe _ _
    (kept_each (ping_req_sent s k probe.target probe.seq) (kept_ping_req s k probe.target probe.seq) _ _ overflow)
    (kept_each (ping_req_sent s k probe.target probe.seq) (kept_ping_req s k probe.target probe.seq) _ _ overflow)

kept_timed_out : (s : Setup) (k : Key) (seq : ℕ) (probe : Option Probe) (o : Effect) → IsOverflowed o.state → IsOverflowed (timed_out s k seq probe o).state
unfolding timed_out
kept_timed_out s k seq None o overflow = overflow
kept_timed_out s k seq (Some probe) o overflow = either_overflow _ _ _ (kept_help s k probe o overflow) overflow

kept_ping_heard : (s : Setup) (k : Key) (initiator seq : ℕ) (updates : List Update) (o : Effect) → IsOverflowed o.state → IsOverflowed (ping_heard s k initiator seq updates o).state
unfolding ping_heard
kept_ping_heard s k initiator seq updates o overflow = kept_ack s k _ _ _ _ (kept_all s Aloud k updates o overflow)

kept_ping_req_heard : (s : Setup) (k : Key) (seq target : ℕ) (updates : List Update) (o : Effect) → IsOverflowed o.state → IsOverflowed (ping_req_heard s k seq target updates o).state
unfolding ping_req_heard
kept_ping_req_heard s k seq target updates o overflow = kept_owed s k seq _ (kept_ping s k _ _ _ _ (kept_all s Aloud k updates o overflow))

kept_ack_heard : (s : Setup) (k : Key) (initiator seq : ℕ) (updates : List Update) (o : Effect) → IsOverflowed o.state → IsOverflowed (ack_heard s k initiator seq updates o).state
unfolding ack_heard
kept_ack_heard s k initiator seq updates o overflow = kept_taken s k _ _ _ (kept_all s Aloud k updates o overflow)

kept_nack_due : (s : Setup) (k : Key) (initiator seq : ℕ) (o : Effect) → IsOverflowed o.state → IsOverflowed (nack_due s k initiator seq o).state
unfolding nack_due nack_sent
kept_nack_due s k initiator seq o overflow = either_overflow _ _ _ (kept_sent s k _ _ _ _ _ overflow) overflow

kept_nack_heard : (seq : ℕ) (o : Effect) → IsOverflowed o.state → IsOverflowed (nack_heard seq o).state
unfolding nack_heard
kept_nack_heard seq o overflow = overflow

kept_confirmed : (s : Setup) (k : Key) (subject : ℕ) (held : Option (Claim × ℕ)) (o : Effect) → IsOverflowed o.state → IsOverflowed (confirmed s k subject held o).state
kept_confirmed s k subject None o overflow = overflow
kept_confirmed s k subject (Some held) o overflow = kept_applied s Aloud k _ o overflow

kept_suspicion_over : (s : Setup) (k : Key) (subject : ℕ) (o : Effect) → IsOverflowed o.state → IsOverflowed (suspicion_over s k subject o).state
unfolding suspicion_over
kept_suspicion_over s k subject o overflow = either_overflow _ _ _ (kept_confirmed s k subject _ o overflow) overflow

kept_withdrawn : (k : Key) (o : Effect) → IsOverflowed o.state → IsOverflowed (withdrawn k o).state
unfolding withdrawn
kept_withdrawn k o overflow = kept_row k _ _ _ _ _ overflow

kept_byes : (s : Setup) (k : Key) (o : Effect) → IsOverflowed o.state → IsOverflowed (byes_said s k o).state
unfolding byes_said
kept_byes s k o overflow = kept_each (bye_sent s k) (kept_bye s k) _ _ overflow

kept_departed : (s : Setup) (k : Key) (o : Effect) → IsOverflowed o.state → IsOverflowed (departed s k o).state
unfolding departed
kept_departed s k o overflow = kept_byes s k _ (kept_row k _ _ _ _ _ overflow)

-- ---- starts

-- where two counters are the same, and the third was within its limit, it is one of these that is past it
pub counters_stay : (t u : State) → u.next_number ≡ t.next_number → u.sequence ≡ t.sequence → ¬ (2 ^ 63 < t.incarnation) → IsOverflowed t → IsOverflowed u
counters_stay t u number sequence within overflow =
    elim overflow [
      | inl h ↦ inl (omega (arith, h, number))
      | inr more ↦ elim more [ inl h ↦ inr (inl (omega (arith, h, sequence))) | inr h ↦ absurd (within h) ]
    ]

kept_first_round : (profile : Profile) (t : State) → IsOverflowed t → IsOverflowed (first_round profile t)
kept_first_round Papers t overflow = overflow
kept_first_round Memberlist t overflow = overflow
kept_first_round Hashicorp t overflow = overflow

pub kept_began : (s : Setup) (k : Key) (o : Effect) → ¬ (2 ^ 63 < o.state.incarnation) → IsOverflowed o.state → IsOverflowed (began s k o).state
unfolding began
kept_began s k o within overflow =
    let others = first_others s k.to in
    let known : State = record o.state { phase = Running; incarnation = 0; table = all_alive others; rota = round_over others } in
    kept_first_period s k (on_state (first_round (profile_of s)) (on_state (λ t. record t { phase = Running; incarnation = 0; table = all_alive others; rota = round_over others }) o))
    (kept_first_round (profile_of s) known (counters_stay o.state known refl refl within overflow))

kept_joining : (s : Setup) (k : Key) (o : Effect) → IsOverflowed o.state → IsOverflowed (joining_begun s k o).state
unfolding joining_begun
kept_joining s k o overflow = kept_join_asked s k _ overflow

kept_started : (s : Setup) (k : Key) (o : Effect) → ¬ (2 ^ 63 < o.state.incarnation) → IsOverflowed o.state → IsOverflowed (started s k o).state
unfolding started with_row
kept_started s k o within overflow = either_overflow (nat_eq (start_of s k.to) 0) _ _ (kept_began s k _ within overflow) (kept_joining s k _ overflow)

kept_plain : (s : Setup) (k : Key) (c : EventKind) (phase : Phase) (o : Effect) → (phase ≡ Waiting → ¬ (2 ^ 63 < o.state.incarnation)) → IsOverflowed o.state → IsOverflowed (plain_handled s k c phase o).state
unfolding plain_handled
kept_plain s k Start Waiting o waits overflow = kept_started s k o (waits refl) overflow
kept_plain s k Crash Joining o waits overflow = kept_crashed k o overflow
kept_plain s k Crash Running o waits overflow = kept_crashed k o overflow
kept_plain s k JoinTimer Joining o waits overflow = kept_join_asked s k o overflow
kept_plain s k PeriodTimer Running o waits overflow = kept_period s k o overflow
kept_plain s k (TimeoutTimer seq) Running o waits overflow = kept_timed_out s k seq o.state.probe o overflow
kept_plain s k (NackTimer initiator seq) Running o waits overflow = kept_nack_due s k initiator seq o overflow
kept_plain s k (SuspicionTimer subject) Running o waits overflow = kept_suspicion_over s k subject o overflow
kept_plain s k Join Running o waits overflow = kept_join_handled s k o overflow
kept_plain s k (Welcome entries) Joining o waits overflow = kept_joined s k entries o overflow
kept_plain s k (Ping initiator seq updates) Running o waits overflow = kept_ping_heard s k initiator seq updates o overflow
kept_plain s k (PingReq target seq updates) Running o waits overflow = kept_ping_req_heard s k seq target updates o overflow
kept_plain s k (Ack initiator seq updates) Running o waits overflow = kept_ack_heard s k initiator seq updates o overflow
kept_plain s k (Nack seq) Running o waits overflow = kept_nack_heard seq o overflow
kept_plain s k _ _ o waits overflow = overflow

pub kept_handled : (s : Setup) (k : Key) (c : EventKind) (phase : Phase) (o : Effect) → (phase ≡ Waiting → ¬ (2 ^ 63 < o.state.incarnation)) → IsOverflowed o.state → IsOverflowed (handled s k c phase o).state
unfolding handled
kept_handled s k Leave Joining o waits overflow = kept_withdrawn k o overflow
kept_handled s k Leave Running o waits overflow = kept_departed s k o overflow
kept_handled s k Bye Running o waits overflow = kept_confirmed s k k.from _ o overflow
kept_handled s k c phase o waits overflow = kept_plain s k c phase o waits overflow

-- ---- by memberlist's rules

kept_beaten : (s : Setup) (k : Key) (o : Effect) → IsOverflowed o.state → IsOverflowed (period_beaten s k o).state
unfolding period_beaten
kept_beaten s k o overflow = kept_in_turn s k _ _ (kept_event s k _ _ _ o overflow)

kept_deadline : (s : Setup) (k : Key) (seq : ℕ) (o : Effect) → IsOverflowed o.state → IsOverflowed (deadline_over s k seq o).state
unfolding deadline_over
kept_deadline s k seq o overflow = either_overflow (is_under_way seq o.state.probe) _ _ (kept_waiting s k _ (kept_settled s k o.state.probe o overflow)) overflow

kept_timed_ack : (s : Setup) (k : Key) (initiator seq : ℕ) (updates : List Update) (o : Effect) → IsOverflowed o.state → IsOverflowed (timed_ack_heard s k initiator seq updates o).state
unfolding timed_ack_heard
kept_timed_ack s k initiator seq updates o overflow = kept_timed_taken s k initiator seq _ (kept_all s Aloud k updates o overflow)

kept_sampled : (s : Setup) (k : Key) (probe : Probe) (o : Effect) → IsOverflowed o.state → IsOverflowed (sampled_help s k probe o).state
unfolding sampled_help
kept_sampled s k probe o overflow =
    either_overflow s.lifeguard.probe _ _
    (kept_each (ping_req_sent s k probe.target probe.seq) (kept_ping_req s k probe.target probe.seq) _ _ overflow)
    (kept_each (ping_req_sent s k probe.target probe.seq) (kept_ping_req s k probe.target probe.seq) _ _ overflow)

kept_timed_out_timed : (s : Setup) (k : Key) (seq : ℕ) (probe : Option Probe) (o : Effect) → IsOverflowed o.state → IsOverflowed (timed_out_timed s k seq probe o).state
unfolding timed_out_timed
kept_timed_out_timed s k seq None o overflow = overflow
kept_timed_out_timed s k seq (Some probe) o overflow =
    either_overflow (nat_eq probe.seq seq) _ _ (kept_called s k probe _ (either_overflow (nat_lt 0 s.swim.helpers) _ _ (kept_sampled s k probe o overflow) overflow)) overflow

kept_answered : (s : Setup) (k : Key) (to seq : ℕ) (o : Effect) → IsOverflowed o.state → IsOverflowed (answer_sent s k to seq o).state
unfolding answer_sent
kept_answered s k to seq o overflow = kept_posted s k _ _ _ _ _ o overflow

kept_answer_heard : (seq : ℕ) (o : Effect) → IsOverflowed o.state → IsOverflowed (answer_heard seq o).state
unfolding answer_heard
kept_answer_heard seq o overflow = overflow

pub kept_spread : (s : Setup) (k : Key) (gossip : settings.Gossip) (o : Effect) → IsOverflowed o.state → IsOverflowed (gossip_spread s k gossip o).state
unfolding gossip_spread
kept_spread s k gossip o overflow = kept_each (gossip_sent s k) (kept_gossip s k) _ _ overflow

kept_gossip_due : (s : Setup) (k : Key) (gossip : Option settings.Gossip) (o : Effect) → IsOverflowed o.state → IsOverflowed (gossip_due s k gossip o).state
kept_gossip_due s k None o overflow = overflow
kept_gossip_due s k (Some gossip) o overflow = either_overflow (is_told_out o.state) _ _ overflow (kept_gossip_set_again s k _ (kept_spread s k gossip _ overflow))

kept_pushed : (s : Setup) (k : Key) (push : ℕ) (o : Effect) → IsOverflowed o.state → IsOverflowed (pushed s k push o).state
unfolding pushed
kept_pushed s k push o overflow = kept_each (push_sent s k) (kept_push s k) _ _ (kept_timer s k _ _ _ overflow)

kept_push_due : (s : Setup) (k : Key) (gossip : Option settings.Gossip) (o : Effect) → IsOverflowed o.state → IsOverflowed (push_due s k gossip o).state
kept_push_due s k None o overflow = overflow
kept_push_due s k (Some gossip) o overflow = either_overflow (nat_eq gossip.push 0) _ _ overflow (kept_pushed s k gossip.push o overflow)

kept_push_heard : (s : Setup) (k : Key) (entries : List Update) (o : Effect) → IsOverflowed o.state → IsOverflowed (push_heard s k entries o).state
unfolding push_heard pull_sent
kept_push_heard s k entries o overflow = kept_merged s k entries _ (kept_posted s k _ _ _ _ _ o overflow)

pub kept_timed : (s : Setup) (k : Key) (c : EventKind) (o : Effect) → IsOverflowed o.state → IsOverflowed (timed_handled s k c o).state
unfolding timed_handled
kept_timed s k PeriodTimer o overflow = kept_beaten s k o overflow
kept_timed s k (TimeoutTimer seq) o overflow = kept_timed_out_timed s k seq o.state.probe o overflow
kept_timed s k (DeadlineTimer seq) o overflow = kept_deadline s k seq o overflow
kept_timed s k (Ack initiator seq updates) o overflow = kept_timed_ack s k initiator seq updates o overflow
kept_timed s k (Call seq) o overflow = kept_answered s k k.from seq o overflow
kept_timed s k (Answer seq) o overflow = kept_answer_heard seq o overflow
kept_timed s k GossipTimer o overflow = kept_gossip_due s k s.gossip o overflow
kept_timed s k (Gossip updates) o overflow = kept_all s Aloud k updates o overflow
kept_timed s k PushTimer o overflow = kept_push_due s k s.gossip o overflow
kept_timed s k (Push entries) o overflow = kept_push_heard s k entries o overflow
kept_timed s k (Pull entries) o overflow = kept_merged s k entries o overflow
kept_timed s k c o overflow = kept_handled s k c Running o (λ is. absurd (let e = is in cc)) overflow

-- ---- by memberlist 0.5.0's rules

kept_single_beaten : (s : Setup) (k : Key) (o : Effect) → IsOverflowed o.state → IsOverflowed (single_beaten s k o).state
unfolding single_beaten
kept_single_beaten s k o overflow = kept_beat_taken s k (with_event s k (next_in_step o.state.beat s.swim.period k.at) k.to PeriodTimer o) (kept_event s k _ _ _ o overflow)

kept_single_deadline : (s : Setup) (k : Key) (seq : ℕ) (o : Effect) → IsOverflowed o.state → IsOverflowed (single_deadline_over s k seq o).state
unfolding single_deadline_over
kept_single_deadline s k seq o overflow = either_overflow (is_under_way seq o.state.probe) _ _ (kept_if_waiting s k _ (kept_settled s k o.state.probe o overflow)) overflow

kept_single_answered : (s : Setup) (k : Key) (seq : ℕ) (o : Effect) → IsOverflowed o.state → IsOverflowed (single_answered s k seq o).state
unfolding single_answered
kept_single_answered s k seq o overflow = either_overflow (is_under_way seq o.state.probe) _ _ (kept_if_waiting s k _ (kept_health k _ _ overflow)) overflow

kept_single_ack : (s : Setup) (k : Key) (initiator seq : ℕ) (o : Effect) → IsOverflowed o.state → IsOverflowed (single_ack_taken s k initiator seq o).state
kept_single_ack s k initiator seq o overflow =
    either_overflow (nat_eq initiator k.to) _ _ (kept_single_answered s k seq o overflow)
    (either_overflow (set.contains o.state.relays (initiator, seq)) _ _ (kept_ack s k initiator initiator seq _ overflow) overflow)

kept_help_over : (s : Setup) (k : Key) (initiator seq : ℕ) (o : Effect) → IsOverflowed o.state → IsOverflowed (help_over s k initiator seq o).state
unfolding help_over
kept_help_over s k initiator seq o overflow = either_overflow s.lifeguard.probe _ _ (kept_nack_due s k initiator seq o overflow) overflow

pub kept_single : (s : Setup) (k : Key) (c : EventKind) (o : Effect) → IsOverflowed o.state → IsOverflowed (single_handled s k c o).state
unfolding single_handled ping_answered help_asked_for single_ack_heard
kept_single s k PeriodTimer o overflow = kept_single_beaten s k o overflow
kept_single s k (DeadlineTimer seq) o overflow = kept_single_deadline s k seq o overflow
kept_single s k (Ping initiator seq updates) o overflow = kept_all s Aloud k updates _ (kept_pings_ack s k k.from initiator seq o overflow)
kept_single s k (PingReq target seq updates) o overflow = kept_all s Aloud k updates _ (kept_relay s k seq (plain_ping_sent s k target k.from seq o) (kept_plain_ping s k target k.from seq o overflow))
kept_single s k (Ack initiator seq updates) o overflow = kept_all s Aloud k updates _ (kept_single_ack s k initiator seq o overflow)
kept_single s k (NackTimer initiator seq) o overflow = kept_help_over s k initiator seq o overflow
kept_single s k c o overflow = kept_timed s k c o overflow
