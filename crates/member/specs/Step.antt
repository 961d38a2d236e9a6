-- What a member makes of an event, by cases on the event and the member's phase (SWIM, sections 3 and 4; Lifeguard).
use Rattle.std.specs.Prelude.{ℕ, ◌+◌, ◌&&◌, Bool, true, false, not, max, nat_eq, nat_lt, if◌then◌else◌, List, [], map, length, Option, Some, None}
use Rattle.std.specs.Option.{option_map_or}
use Rattle.std.specs.FinMap.{get, empty, len}
use Rattle.std.specs.FinSet as set
use Rattle.base.specs.declared.key.Key.{Key}
use Rattle.base.specs.World.{Machine}
use Rattle.scenario.specs.Setup.{Setup, start_of}
use Rattle.trace.specs.declared.row.Row.{Row}
use Rattle.trace.specs.declared.row.What.TheVariants as what
use Rattle.incarnation.specs.declared.Claim.{Claim}
use Rattle.incarnation.specs.declared.Claim.TheVariants.{Alive, Suspect, Confirm}
use Rattle.incarnation.specs.declared.Update.{Update}
use Rattle.lifeguard.specs.declared.probe.Probe.{Probe}
use Rattle.lifeguard.specs.Health.{lowered, scaled}
use Rattle.lifeguard.specs.Probe.{fresh_probe, timed_probe, with_nack, with_reach, after_probe}
use Rattle.probing.specs.ProbeOrder.{round_over, next_of, helpers_of}
use Rattle.probing.specs.Samples.{sample_of}
use Rattle.base.specs.Beats.{next_in_step}
use Rattle.base.specs.declared.profile.Profile.{Profile}
use Rattle.base.specs.declared.profile.Profile.TheVariants.{Papers, Memberlist, Hashicorp}
use Rattle.scenario.specs.Profile.{profile_of}
use Rattle.scenario.specs.declared.settings.Gossip as settings
use Rattle.suspicion.specs.Suspicions.{is_due}
use Rattle.member.specs.declared.member.Phase.{Phase}
use Rattle.member.specs.declared.member.Phase.TheVariants.{Waiting, Joining, Running, Down}
use Rattle.member.specs.declared.event_kind.EventKind.{EventKind}
use Rattle.member.specs.declared.event_kind.EventKind.TheVariants.{Start, Crash, Leave, Restart, SettingTimer, ConnectedTimer, ReconnectTimer, ExitTimer, JoinTimer, PeriodTimer, TimeoutTimer, NackTimer, SuspicionTimer, Join, Welcome, Ping, PingReq, Ack, Nack, Bye, DeadlineTimer, GossipTimer, PushTimer, Call, Answer, Gossip, Push, Pull}
use Rattle.member.specs.declared.announce.Announce.TheVariants.{Aloud, Quietly}
use Rattle.membership.specs.declared.candidates.Fitting.TheVariants.{AliveBut}
use Rattle.membership.specs.Table.{is_alive, is_confirm, size_by, alive_but}
use Rattle.member.specs.State.{State}
use Rattle.member.specs.Effects.{Effect, unchanged, on_state, with_row, with_number, with_event, with_timer}
use Rattle.member.specs.Send.{sent_to_each, ping_sent, ping_req_sent, ack_sent, join_sent, welcome_sent, bye_sent, call_sent, answer_sent, push_sent, pull_sent}
use Rattle.member.specs.Apply.{with_health, gossip_set, applied, all_applied}
use Rattle.member.specs.SingleBeat.{single_beaten, single_deadline_over}
use Rattle.member.specs.LateAcks.{ping_answered, help_asked_for, single_ack_heard, help_over}
unfoldable pub use Rattle.member.specs.Starts.{push_begun, push_begun_by, first_push_set, periods_set, first_period_set, is_first_other, first_others, began}
unfoldable pub use Rattle.member.specs.Choices.{about_others, candidates_for, gossip_spread, downed}
use Rattle.member.specs.Beginnings.{contact_asked, pushes_set, restarted}
use Rattle.member.specs.DialedPushes.{dialed_push_due}
use Rattle.member.specs.Merges.{push_merged}
use Rattle.member.specs.Leaves.{leave_begun, leave_gone_on, exited}
use Rattle.member.specs.Reconnects.{reconnect_due}
use Rattle.member.specs.WholeGossip.{whole_gossip_due}
use Rattle.member.specs.Processes.{is_of_former_life, pull_merged, restart_handled, start_handled}
unfoldable pub use Rattle.member.specs.EvenPushes.{doublings_to, push_period, even_push_begun}
unfoldable pub use Rattle.member.specs.Outcomes.{is_under_way, has_time, suspected_at, timed_probe_failed, probe_settled, with_relay, nack_due}

-- ---- start, crash and join

-- A member that joins asks its contact, and asks again after a period.
unfoldable pub join_asked : Setup → Key → Effect → Effect
join_asked s k o = with_timer s k s.swim.period JoinTimer (join_sent s k o)

-- A member that starts later knows nobody, and joins.
unfoldable pub joining_begun : Setup → Key → Effect → Effect
joining_begun s k o = join_asked s k (on_state (λ t. record t { phase = Joining; table = empty; rota = round_over [] }) o)

-- A member starts.
unfoldable pub started : Setup → Key → Effect → Effect
started s k o =
    let told = with_row k what.Start None 0 false o in
    if nat_eq (start_of s k.to) 0 then began s k told else joining_begun s k told

-- A member crashes, for good.
unfoldable pub crashed : Key → Effect → Effect
crashed k o = with_row k what.Crash None 0 false (on_state (λ t. record t { phase = Down }) o)

-- A member that asks to join is alive at number 0, and is sent all that one knows.
unfoldable pub join_handled : Setup → Key → Effect → Effect
join_handled s k o =
    welcome_sent s k k.from (applied s Aloud k (record { subject = k.from; claim = Alive; inc = 0; accuser = k.to }) o)

-- A member that is welcomed runs. It takes over what it is sent, quietly.
unfoldable pub joined : Setup → Key → List Update → Effect → Effect
joined s k entries o =
    let running = on_state (λ t. record t { phase = Running }) o in
    first_period_set s k (all_applied s Quietly k entries (with_row k what.Joined (Some k.from) (length (about_others k.to entries)) false running))

-- ---- a member's own probe (SWIM, sections 3.1 and 4.3)

-- whom a failed probe suspects: the target, if the table does not hold it as confirmed
abbrev pub suspected : Setup → Key → ℕ → Option (Claim × ℕ) → Effect → Effect
suspected s k target None o = o
suspected s k target (Some held) o =
    if is_confirm held.0 then o else applied s Aloud k (record { subject = target; claim = Suspect; inc = held.1; accuser = k.to }) o

-- A probe without an ack has failed.
unfoldable pub probe_failed : Setup → Key → Probe → Effect → Effect
probe_failed s k probe o =
    let told = with_row k what.Fail (Some probe.target) probe.seq false o in
    let weighed = with_health k (after_probe told.state.health probe) told in
    suspected s k probe.target (get weighed.state.table probe.target) weighed

-- What the end of the period says of its probe, if there was one.
unfoldable pub probe_ended : Setup → Key → Option Probe → Effect → Effect
probe_ended s k None o = o
probe_ended s k (Some probe) o = if probe.acked then with_health k (after_probe o.state.health probe) o else probe_failed s k probe o

-- A new probe: a ping to the target, which has until the timeout to answer. LHA-Probe scales the timeout.
unfoldable pub probe_begun : Setup → Key → ℕ → Effect → Effect
probe_begun s k target o =
    let seq = o.state.sequence + 1 in
    let pinged = ping_sent s k target k.to seq (on_state (λ t. record t { sequence = seq; probe = Some (fresh_probe seq target) }) o) in
    with_timer s k (scaled pinged.state.health s.swim.timeout) (TimeoutTimer seq) pinged

-- the probe of the next target, where there is one
abbrev pub target_probed : Setup → Key → Option ℕ → Effect → Effect
target_probed s k None o = on_state (λ t. record t { probe = None }) o
target_probed s k (Some target) o = probe_begun s k target o

-- The next target in its turn.
unfoldable pub next_probed : Setup → Key → Effect → Effect
next_probed s k o =
    let next = next_of o.state.words o.state.rota in
    target_probed s k next.0 (on_state (λ t. record t { rota = next.1; words = next.2 }) o)

-- A protocol period: the last probe ends, the next begins, and the next period begins a period later.
-- LHA-Probe scales the period.
unfoldable pub period_begun : Setup → Key → Effect → Effect
period_begun s k o =
    let probing = next_probed s k (probe_ended s k o.state.probe o) in
    with_timer s k (scaled probing.state.health s.swim.period) PeriodTimer probing

-- Requests to the helpers, one after another.
abbrev pub all_asked : Setup → Key → ℕ → ℕ → List ℕ → Effect → Effect
all_asked s k target seq helpers o = sent_to_each (ping_req_sent s k target seq) helpers o

-- LHA-Probe: the probe expects an answer of each helper that was asked, also where the request was lost.
abbrev pub with_expected : Setup → Probe → ℕ → Effect → Effect
with_expected s probe count o =
    if s.lifeguard.probe then on_state (λ t. record t { probe = Some (record probe { expected = count }) }) o else o

-- Helpers are asked to ping the target: members that are held to be alive, in an order that chance decides.
unfoldable pub help_asked : Setup → Key → Probe → Effect → Effect
help_asked s k probe o =
    let drawn = helpers_of o.state.words s.swim.helpers (alive_but probe.target o.state.table) in
    with_expected s probe (length drawn.0) (all_asked s k probe.target probe.seq drawn.0 (on_state (λ t. record t { words = drawn.1 }) o))

-- The time for a direct answer is up (SWIM, section 3.1).
unfoldable pub timed_out : Setup → Key → ℕ → Option Probe → Effect → Effect
timed_out s k seq None o = o
timed_out s k seq (Some probe) o =
    if nat_eq probe.seq seq && not probe.acked && nat_lt 0 s.swim.helpers then help_asked s k probe o else o

-- an ack answers the probe that is under way, if it has its number
abbrev pub answered : ℕ → Option Probe → Option Probe
answered seq None = None
answered seq (Some probe) = Some (if nat_eq probe.seq seq then record probe { acked = true } else probe)

-- and so does a nack
abbrev pub nacked : ℕ → Option Probe → Option Probe
nacked seq None = None
nacked seq (Some probe) = Some (if nat_eq probe.seq seq then with_nack probe else probe)

-- A nack of a helper (LHA-Probe).
unfoldable pub nack_heard : ℕ → Effect → Effect
nack_heard seq o = on_state (λ t. record t { probe = nacked seq t.probe }) o

-- ---- probes of others (SWIM, section 3.1)

-- A ping is answered, after what rides on it is applied.
unfoldable pub ping_heard : Setup → Key → ℕ → ℕ → List Update → Effect → Effect
ping_heard s k initiator seq updates o = ack_sent s k k.from initiator seq (all_applied s Aloud k updates o)

-- A helper pings the target on behalf of the initiator.
unfoldable pub ping_req_heard : Setup → Key → ℕ → ℕ → List Update → Effect → Effect
ping_req_heard s k seq target updates o =
    let pinged = ping_sent s k target k.from seq (all_applied s Aloud k updates o) in
    if s.lifeguard.probe then with_relay s k seq pinged else pinged

-- An ack reaches the initiator, or is passed on to it: then no answer is owed any more.
unfoldable pub ack_taken : Setup → Key → ℕ → ℕ → Effect → Effect
ack_taken s k initiator seq o =
    if nat_eq initiator k.to
    then on_state (λ t. record t { probe = answered seq t.probe }) o
    else ack_sent s k initiator initiator seq (on_state (λ t. record t { relays = set.remove t.relays (initiator, seq) }) o)

-- An ack, after what rides on it is applied.
unfoldable pub ack_heard : Setup → Key → ℕ → ℕ → List Update → Effect → Effect
ack_heard s k initiator seq updates o = ack_taken s k initiator seq (all_applied s Aloud k updates o)

-- ---- suspicions

-- Confirm of a member at the number at which the table holds it
abbrev pub confirmed : Setup → Key → ℕ → Option (Claim × ℕ) → Effect → Effect
confirmed s k subject None o = o
confirmed s k subject (Some held) o = applied s Aloud k (record { subject = subject; claim = Confirm; inc = held.1; accuser = k.to }) o

-- The time of a suspicion is over, unless this timer is an older one (SWIM, section 4.2).
unfoldable pub suspicion_over : Setup → Key → ℕ → Effect → Effect
suspicion_over s k subject o =
    if is_due o.state.suspicions subject k.number then confirmed s k subject (get o.state.table subject) o else o

-- ---- leaves, of the format's second version

-- A member that joins leaves. It knows nobody to whom it could send a bye.
unfoldable pub withdrawn : Key → Effect → Effect
withdrawn k o = on_state downed (with_row k what.Leave None 0 false o)

-- Byes to members that are held to be alive, as many as help with a probe but one at least: chance decides which,
-- and in which order.
unfoldable pub byes_said : Setup → Key → Effect → Effect
byes_said s k o =
    let drawn = helpers_of o.state.words (max 1 s.swim.helpers) (alive_but k.to o.state.table) in
    sent_to_each (bye_sent s k) drawn.0 (on_state (λ t. record t { words = drawn.1 }) o)

-- A member that runs says bye, and leaves.
unfoldable pub departed : Setup → Key → Effect → Effect
departed s k o = on_state downed (byes_said s k (with_row k what.Leave None 0 false o))

-- Who says bye is confirmed, as if its suspicion were over. To Confirm it adds nothing.
abbrev pub bye_heard : Setup → Key → Effect → Effect
bye_heard s k o = confirmed s k k.from (get o.state.table k.from) o

-- ---- a member's own probe, by memberlist's rules

-- whether a probe needs a timer to end it at its deadline: not where the beat whose timer is set before it comes no later, since
-- that beat ends the probe
abbrev pub needs_timer : Option ℕ → ℕ → Bool
needs_timer None deadline = true
needs_timer (Some beat) deadline = nat_lt beat deadline

-- the timer of a deadline, where one is needed; where it isn't, its number is used all the same
abbrev pub deadline_set : Setup → Key → Option ℕ → ℕ → ℕ → Effect → Effect
deadline_set s k next_beat seq deadline o =
    if needs_timer next_beat deadline then with_event s k deadline k.to (DeadlineTimer seq) o else on_state with_number o

-- the time for a direct answer, which no health makes longer, and the deadline
abbrev pub probe_timers_set : Setup → Key → Option ℕ → ℕ → ℕ → ℕ → Effect → Effect
probe_timers_set s k next_beat seq timeout deadline o = deadline_set s k next_beat seq deadline (with_timer s k timeout (TimeoutTimer seq) o)

-- A new probe: a ping, the time for a direct answer, and a period as long as health makes it. The next beat is given where its
-- timer is set already.
unfoldable pub timed_probe_begun : Setup → Key → Option ℕ → ℕ → Effect → Effect
timed_probe_begun s k next_beat target o =
    let seq = o.state.sequence + 1 in
    let deadline = k.at + scaled o.state.health s.swim.period in
    let probe = timed_probe seq target (option_map_or (λ held. held.1) (get o.state.table target) 0) deadline in
    probe_timers_set s k next_beat seq s.swim.timeout deadline (ping_sent s k target k.to seq (on_state (λ t. record t { sequence = seq; probe = Some probe }) o))

abbrev pub timed_target_probed : Setup → Key → Option ℕ → Option ℕ → Effect → Effect
timed_target_probed s k next_beat None o = on_state (λ t. record t { probe = None }) o
timed_target_probed s k next_beat (Some target) o = timed_probe_begun s k next_beat target o

-- The next target in its turn.
unfoldable pub next_timed_probed : Setup → Key → Option ℕ → Effect → Effect
next_timed_probed s k next_beat o =
    let next = next_of o.state.words o.state.rota in
    timed_target_probed s k next_beat next.0 (on_state (λ t. record t { rota = next.1; words = next.2 }) o)

-- The next probe, if it was kept waiting. No beat spares it its timer: it may begin at the moment of a beat that is still to be
-- handled, so that its deadline comes before the beat after that.
abbrev pub waiting_probed : Setup → Key → Effect → Effect
waiting_probed s k o = if o.state.waits then next_timed_probed s k None (on_state (λ t. record t { waits = false }) o) else o

-- the probe that is under way, if there is one, ends, and the next begins
abbrev pub next_after_settled : Setup → Key → ℕ → Effect → Effect
next_after_settled s k next_beat o = next_timed_probed s k (Some next_beat) (probe_settled s k o.state.probe o)

-- the next probe waits for one that still has time
abbrev pub probed_in_turn : Setup → Key → ℕ → Effect → Effect
probed_in_turn s k next_beat o =
    if has_time k.at o.state.probe then on_state (λ t. record t { waits = true }) o else next_after_settled s k next_beat o

-- The beat of the periods: the next comes whole periods after the first, whatever put this one off.
unfoldable pub period_beaten : Setup → Key → Effect → Effect
period_beaten s k o =
    let next_beat = next_in_step o.state.beat s.swim.period k.at in
    probed_in_turn s k next_beat (with_event s k next_beat k.to PeriodTimer o)

-- the probe that is under way ends, and the next begins, if it was kept waiting
abbrev pub waiting_after_settled : Setup → Key → Effect → Effect
waiting_after_settled s k o = waiting_probed s k (probe_settled s k o.state.probe o)

-- The probe's time is over.
unfoldable pub deadline_over : Setup → Key → ℕ → Effect → Effect
deadline_over s k seq o = if is_under_way seq o.state.probe then waiting_after_settled s k o else o

-- An ack of the probe that is under way ends it.
unfoldable pub timed_answered : Setup → Key → ℕ → Effect → Effect
timed_answered s k seq o =
    if is_under_way seq o.state.probe
    then waiting_probed s k (with_health k (lowered o.state.health) (on_state (λ t. record t { probe = None }) o))
    else o

-- an ack reaches the initiator, or is passed on to it
abbrev pub timed_ack_taken : Setup → Key → ℕ → ℕ → Effect → Effect
timed_ack_taken s k initiator seq o = if nat_eq initiator k.to then timed_answered s k seq o else ack_taken s k initiator seq o

-- An ack, after what rides on it is applied.
unfoldable pub timed_ack_heard : Setup → Key → ℕ → ℕ → List Update → Effect → Effect
timed_ack_heard s k initiator seq updates o = timed_ack_taken s k initiator seq (all_applied s Aloud k updates o)

-- Helpers are drawn among all that are known.
unfoldable pub sampled_help : Setup → Key → Probe → Effect → Effect
sampled_help s k probe o =
    let drawn = sample_of o.state.words s.swim.helpers (candidates_for k (AliveBut probe.target) o.state) in
    with_expected s probe (length drawn.0) (all_asked s k probe.target probe.seq drawn.0 (on_state (λ t. record t { words = drawn.1 }) o))

-- a stream to the target, where that is wanted
abbrev pub called : Setup → Key → Probe → Effect → Effect
called s k probe o = if s.swim.fallback then call_sent s k probe.target probe.seq o else o

-- helpers, where there are to be any
abbrev pub helped : Setup → Key → Probe → Effect → Effect
helped s k probe o = if nat_lt 0 s.swim.helpers then sampled_help s k probe o else o

-- The time for a direct answer is up: helpers are asked, and a stream is tried.
unfoldable pub timed_out_timed : Setup → Key → ℕ → Option Probe → Effect → Effect
timed_out_timed s k seq None o = o
timed_out_timed s k seq (Some probe) o = if nat_eq probe.seq seq then called s k probe (helped s k probe o) else o

-- a call that came through reached the target
abbrev pub reached : ℕ → Option Probe → Option Probe
reached seq None = None
reached seq (Some probe) = Some (if nat_eq probe.seq seq then with_reach probe else probe)

-- The answer to a call counts at the deadline alone.
unfoldable pub answer_heard : ℕ → Effect → Effect
answer_heard seq o = on_state (λ t. record t { probe = reached seq t.probe }) o

-- ---- gossip and push, by memberlist's rules

-- nothing is left to send
abbrev pub is_told_out : State → Bool
is_told_out t = nat_eq (len t.buffer) 0

-- the timer is set again, as long as there is something to send
abbrev pub gossip_set_again : Setup → Key → Effect → Effect
gossip_set_again s k o = if is_told_out o.state then o else gossip_set s k s.gossip o

-- updates to some, as long as there is something to send
abbrev pub gossip_round : Setup → Key → settings.Gossip → Effect → Effect
gossip_round s k gossip o = if is_told_out o.state then o else gossip_set_again s k (gossip_spread s k gossip o)

-- Updates go out by themselves.
abbrev pub gossip_due : Setup → Key → Option settings.Gossip → Effect → Effect
gossip_due s k None o = o
gossip_due s k (Some gossip) o = gossip_round s k gossip (on_state (λ t. record t { gossips = false }) o)

-- what a stream says of somebody: a death is not believed, it is suspected
abbrev pub merged_claim : ℕ → Update → Update
merged_claim me u = if is_alive u.claim then u else record u { claim = Suspect; accuser = me }

-- All that another knows, in the order of the subjects.
unfoldable pub merged : Setup → Key → List Update → Effect → Effect
merged s k entries o = all_applied s Aloud k (map (merged_claim k.to) entries) o

-- All that is known goes to one who is chosen, and again after a push period.
unfoldable pub pushed : Setup → Key → ℕ → Effect → Effect
pushed s k push o =
    let drawn = sample_of o.state.words 1 (candidates_for k (AliveBut k.to) o.state) in
    let set = with_timer s k (push_period push (size_by (profile_of s) o.state.table)) PushTimer (on_state (λ t. record t { words = drawn.1 }) o) in
    sent_to_each (push_sent s k) drawn.0 set

-- where members push
abbrev pub push_due : Setup → Key → Option settings.Gossip → Effect → Effect
push_due s k None o = o
push_due s k (Some gossip) o = if nat_eq gossip.push 0 then o else pushed s k gossip.push o

-- A push is answered by all that one knows, and then heeded.
unfoldable pub push_heard : Setup → Key → List Update → Effect → Effect
push_heard s k entries o = merged s k entries (pull_sent s k k.from o)

-- ---- the step

-- the messages of a probe, at a member that runs
abbrev pub probing_handled : Setup → Key → EventKind → Effect → Effect
probing_handled s k (Ping initiator seq updates) o = ping_heard s k initiator seq updates o
probing_handled s k (PingReq target seq updates) o = ping_req_heard s k seq target updates o
probing_handled s k (Ack initiator seq updates) o = ack_heard s k initiator seq updates o
probing_handled s k _ o = o

-- Where nobody leaves, as in the format's first version: by cases on the event and the phase of its receiver. An event
-- in another phase has no effect.
unfoldable pub plain_handled : Setup → Key → EventKind → Phase → Effect → Effect
plain_handled s k Start Waiting o = started s k o
plain_handled s k Crash Joining o = crashed k o
plain_handled s k Crash Running o = crashed k o
plain_handled s k JoinTimer Joining o = join_asked s k o
plain_handled s k Join Running o = join_handled s k o
plain_handled s k (Welcome entries) Joining o = joined s k entries o
plain_handled s k PeriodTimer Running o = period_begun s k o
plain_handled s k (TimeoutTimer seq) Running o = timed_out s k seq o.state.probe o
plain_handled s k (Ping initiator seq updates) Running o = ping_heard s k initiator seq updates o
plain_handled s k (PingReq target seq updates) Running o = ping_req_heard s k seq target updates o
plain_handled s k (Ack initiator seq updates) Running o = ack_heard s k initiator seq updates o
plain_handled s k (NackTimer initiator seq) Running o = nack_due s k initiator seq o
plain_handled s k (Nack seq) Running o = nack_heard seq o
plain_handled s k (SuspicionTimer subject) Running o = suspicion_over s k subject o
plain_handled s k _ _ o = o

unfoldable pub plain_step : Setup → Machine State EventKind Row
plain_step s k content t = plain_handled s k content t.phase (unchanged t)

-- What the format's second version adds: leaves and byes.
unfoldable pub handled : Setup → Key → EventKind → Phase → Effect → Effect
handled s k Leave Joining o = withdrawn k o
handled s k Leave Running o = departed s k o
handled s k Bye Running o = bye_heard s k o
handled s k content phase o = plain_handled s k content phase o

-- What memberlist's rules add for a member that runs, and what they change of its own probe.
unfoldable pub timed_handled : Setup → Key → EventKind → Effect → Effect
timed_handled s k PeriodTimer o = period_beaten s k o
timed_handled s k (TimeoutTimer seq) o = timed_out_timed s k seq o.state.probe o
timed_handled s k (DeadlineTimer seq) o = deadline_over s k seq o
timed_handled s k (Ack initiator seq updates) o = timed_ack_heard s k initiator seq updates o
timed_handled s k (Call seq) o = answer_sent s k k.from seq o
timed_handled s k (Answer seq) o = answer_heard seq o
timed_handled s k GossipTimer o = gossip_due s k s.gossip o
timed_handled s k (Gossip updates) o = all_applied s Aloud k updates o
timed_handled s k PushTimer o = push_due s k s.gossip o
timed_handled s k (Push entries) o = push_heard s k entries o
timed_handled s k (Pull entries) o = merged s k entries o
timed_handled s k content o = handled s k content Running o

-- What memberlist 0.5.0's rules change of that.
unfoldable pub single_handled : Setup → Key → EventKind → Effect → Effect
single_handled s k PeriodTimer o = single_beaten s k o
single_handled s k (DeadlineTimer seq) o = single_deadline_over s k seq o
single_handled s k (Ping initiator seq updates) o = ping_answered s k initiator seq updates o
single_handled s k (PingReq target seq updates) o = help_asked_for s k seq target updates o
single_handled s k (Ack initiator seq updates) o = single_ack_heard s k initiator seq updates o
single_handled s k (NackTimer initiator seq) o = help_over s k initiator seq o
single_handled s k content o = timed_handled s k content o

-- What memberlist 0.5.0's and Serf's rules for processes add to that. The messages join, welcome and bye don't occur.
unfoldable pub process_handled : Setup → Key → EventKind → Effect → Effect
process_handled s k (Restart contact) o = restarted s k contact o
process_handled s k Leave o = leave_begun s k o
process_handled s k JoinTimer o = contact_asked s k o.state.life.contact o
process_handled s k SettingTimer o = pushes_set s k s.gossip o
process_handled s k (ConnectedTimer to) o = push_sent s k to o
process_handled s k PushTimer o = dialed_push_due s k s.gossip o
process_handled s k (Push entries) o = push_merged s k entries o
process_handled s k (Pull entries) o = pull_merged s k entries o
process_handled s k GossipTimer o = whole_gossip_due s k s.gossip o
process_handled s k ReconnectTimer o = reconnect_due s k s.serf o
process_handled s k ExitTimer o = exited k o
process_handled s k Join o = o
process_handled s k (Welcome entries) o = o
process_handled s k Bye o = o
process_handled s k content o = single_handled s k content o

-- by the phase of a process: none is ever joining
abbrev pub phase_handled : Phase → Setup → Key → EventKind → Effect → Effect
phase_handled Waiting s k content o = start_handled s k content o
phase_handled Joining s k content o = o
phase_handled Running s k content o = leave_gone_on s k (process_handled s k content o)
phase_handled Down s k content o = restart_handled s k content o

-- An event at a process.
unfoldable pub process_lived : Phase → Setup → Key → EventKind → Effect → Effect
process_lived phase s k content o = if is_of_former_life k content o.state.life.birth then o else phase_handled phase s k content o

-- by memberlist's rules
abbrev pub phase_timed : Phase → Setup → Key → EventKind → Effect → Effect
phase_timed Running s k content o = timed_handled s k content o
phase_timed phase s k content o = handled s k content phase o

-- by whose rules the members go
abbrev pub handled_by : Phase → Profile → Setup → Key → EventKind → Effect → Effect
handled_by phase Papers s k content o = handled s k content phase o
handled_by phase Memberlist s k content o = phase_timed phase s k content o
handled_by phase Hashicorp s k content o = process_lived phase s k content o

unfoldable pub step : Setup → Machine State EventKind Row
step s k content t = handled_by t.phase (profile_of s) s k content (unchanged t)
