-- A member's own probe by memberlist 0.5.0's rules (state.go: probe, probeNode). Its ticker holds one tick: a beat that comes while a probe
-- is under way waits, and one that comes at the moment of that probe's deadline is the same as the one that waited. So a beat counts once.
use Rattle.std.specs.Prelude.{ℕ, ◌+◌, ◌%◌, Bool, true, false, max, min, nat_eq, nat_lt, if◌then◌else◌, Option, Some, None}
use Rattle.std.specs.Option.{option_map_or}
use Rattle.std.specs.FinMap.{get}
use Rattle.base.specs.Beats.{next_in_step}
use Rattle.base.specs.declared.key.Key.{Key}
use Rattle.scenario.specs.Setup.{Setup}
use Rattle.lifeguard.specs.Health.{lowered, scaled}
use Rattle.lifeguard.specs.Probe.{timed_probe}
use Rattle.probing.specs.ProbeOrder.{next_of}
use Rattle.member.specs.declared.event_kind.EventKind.TheVariants.{PeriodTimer, TimeoutTimer, DeadlineTimer}
use Rattle.member.specs.Effects.{Effect, on_state, with_number, with_event, with_timer}
use Rattle.member.specs.Apply.{with_health}
use Rattle.member.specs.Blocks.{departs_at}
use Rattle.member.specs.Forgetting.{round_ended}
use Rattle.member.specs.LoneBuddy.{probe_ping_sent}
use Rattle.member.specs.Outcomes.{is_under_way, has_time, probe_settled}

-- whether a moment is a whole number of periods from a beat
abbrev pub is_in_step : ℕ → ℕ → ℕ → Bool
is_in_step beat period at = nat_eq (at % period) (beat % period)

-- the timer of a deadline, but not where the deadline is in step with the beat, since the period timer of that moment ends the probe: then the
-- timer's number is used all the same
abbrev pub deadline_between_beats : Setup → Key → ℕ → ℕ → Effect → Effect
deadline_between_beats s k seq deadline o =
    if is_in_step o.state.beat s.swim.period deadline then on_state with_number o else with_event s k deadline k.to (DeadlineTimer seq) o

-- the time for a direct answer, which no health makes longer, and the deadline
abbrev pub both_timers_set : Setup → Key → ℕ → ℕ → ℕ → Effect → Effect
both_timers_set s k seq timeout deadline o = deadline_between_beats s k seq deadline (with_timer s k timeout (TimeoutTimer seq) o)

-- A new probe: a ping, the time for a direct answer, and a period as long as health makes it.
unfoldable pub single_probe_begun : Setup → Key → ℕ → Effect → Effect
single_probe_begun s k target o =
    let seq = o.state.sequence + 1 in
    let deadline = k.at + scaled o.state.health s.swim.period in
    let probe = timed_probe seq target (option_map_or (λ held. held.1) (get o.state.table target) 0) deadline in
    both_timers_set s k seq s.swim.timeout deadline (probe_ping_sent s k target seq (on_state (λ t. record t { sequence = seq; probe = Some probe }) o))

-- a probe whose ping departs later, at the end of a block: it has failed when the block ends, or at its deadline where that is later. Then its timer is
-- made in any case, and helpers are asked no later.
unfoldable pub blocked_probe_begun : Setup → Key → ℕ → ℕ → Effect → Effect
blocked_probe_begun s k target departs o =
    let seq = o.state.sequence + 1 in
    let deadline = max (k.at + scaled o.state.health s.swim.period) departs in
    let probe = timed_probe seq target (option_map_or (λ held. held.1) (get o.state.table target) 0) deadline in
    with_event s k deadline k.to (DeadlineTimer seq)
    (with_event s k (min (departs + s.swim.timeout) deadline) k.to (TimeoutTimer seq)
    (probe_ping_sent s k target seq (on_state (λ t. record t { sequence = seq; probe = Some probe }) o)))

-- by whether the ping of a probe departs now
abbrev pub departing_probe_begun : Setup → Key → ℕ → ℕ → Effect → Effect
departing_probe_begun s k target departs o =
    if nat_lt k.at departs then blocked_probe_begun s k target departs o else single_probe_begun s k target o

abbrev pub single_target_probed : Setup → Key → Option ℕ → Effect → Effect
single_target_probed s k None o = on_state (λ t. record t { probe = None }) o
single_target_probed s k (Some target) o = departing_probe_begun s k target (departs_at s k) o

-- The next target in its turn.
unfoldable pub turn_probed : Setup → Key → Effect → Effect
turn_probed s k o =
    let next = next_of o.state.words o.state.rota in
    single_target_probed s k next.0 (on_state (λ t. record t { rota = next.1; words = next.2 }) o)

-- The next target, after the end of a round that is over.
unfoldable pub next_single_probed : Setup → Key → Effect → Effect
next_single_probed s k o = turn_probed s k (round_ended s k o)

-- no beat waits any more
abbrev pub without_waiting : Effect → Effect
without_waiting o = on_state (λ t. record t { waits = false }) o

-- the next probe, if a beat waits for it
abbrev pub next_if_waiting : Setup → Key → Effect → Effect
next_if_waiting s k o = if o.state.waits then next_single_probed s k (without_waiting o) else o

-- the probe that is under way, if there is one, ends, and the next begins, whether or not a beat waited for that
abbrev pub next_of_beat : Setup → Key → Effect → Effect
next_of_beat s k o = next_single_probed s k (probe_settled s k o.state.probe (without_waiting o))

-- a beat waits for a probe that still has time
abbrev pub single_beat_taken : Setup → Key → Effect → Effect
single_beat_taken s k o = if has_time k.at o.state.probe then on_state (λ t. record t { waits = true }) o else next_of_beat s k o

-- The beat of the periods: the next comes whole periods after the first, whatever put this one off.
unfoldable pub single_beaten : Setup → Key → Effect → Effect
single_beaten s k o = single_beat_taken s k (with_event s k (next_in_step o.state.beat s.swim.period k.at) k.to PeriodTimer o)

-- the probe that is under way ends, and the next begins, if a beat waits for it
abbrev pub next_if_waiting_after : Setup → Key → Effect → Effect
next_if_waiting_after s k o = next_if_waiting s k (probe_settled s k o.state.probe o)

-- The probe's time is over.
unfoldable pub single_deadline_over : Setup → Key → ℕ → Effect → Effect
single_deadline_over s k seq o = if is_under_way seq o.state.probe then next_if_waiting_after s k o else o

-- An ack of the probe that is under way ends it.
unfoldable pub single_answered : Setup → Key → ℕ → Effect → Effect
single_answered s k seq o =
    if is_under_way seq o.state.probe
    then next_if_waiting s k (with_health k (lowered o.state.health) (on_state (λ t. record t { probe = None }) o))
    else o
