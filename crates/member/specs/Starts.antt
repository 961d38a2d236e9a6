-- How a member starts that knows all others: its first period, its first push.
use Rattle.std.specs.Prelude.{ℕ, ◌+◌, ◌&&◌, Bool, not, nat_eq, if◌then◌else◌, List, filter, Option, Some, None}
use Rattle.std.specs.List.{range_with_len}
use Rattle.base.specs.declared.key.Key.{Key}
use Rattle.base.specs.declared.profile.Profile.{Profile}
use Rattle.base.specs.declared.profile.Profile.TheVariants.{Papers, Memberlist, Hashicorp}
use Rattle.scenario.specs.Setup.{Setup, member_count, start_of}
use Rattle.scenario.specs.Profile.{profile_of}
use Rattle.scenario.specs.declared.settings.Gossip as settings
use Rattle.streams.specs.Draw.{below_of}
use Rattle.probing.specs.ProbeOrder.{round_over}
use Rattle.membership.specs.Table.{size_by, all_alive}
use Rattle.member.specs.declared.member.Phase.TheVariants.{Running}
use Rattle.member.specs.declared.event_kind.EventKind.TheVariants.{PeriodTimer, PushTimer}
use Rattle.member.specs.Effects.{Effect, on_state, with_event, with_timer}
use Rattle.member.specs.FirstRounds.{first_round}
use Rattle.member.specs.EvenPushes.{push_period, even_push_begun}

-- The push timer: a push period and a part of the setting that chance decides after the beat.
unfoldable pub push_begun : Setup → Key → ℕ → ℕ → Effect → Effect
push_begun s k beat push o =
    let drawn = below_of o.state.words push in
    with_event s k (beat + drawn.0 + push_period push (size_by (profile_of s) o.state.table)) k.to PushTimer (on_state (λ t. record t { words = drawn.1 }) o)

-- the push timer, by the rules of a profile
abbrev pub push_begun_by : Profile → Setup → Key → ℕ → ℕ → Effect → Effect
push_begun_by Papers s k beat push o = push_begun s k beat push o
push_begun_by Memberlist s k beat push o = push_begun s k beat push o
push_begun_by Hashicorp s k beat push o = even_push_begun s k beat push o

-- the first push after a beat, where members push
abbrev pub first_push_set : Setup → Key → ℕ → Option settings.Gossip → Effect → Effect
first_push_set s k beat None o = o
first_push_set s k beat (Some gossip) o = if nat_eq gossip.push 0 then o else push_begun_by (profile_of s) s k beat gossip.push o

-- the first period after so many ticks, at a beat, and the first push
abbrev pub periods_set : Setup → Key → ℕ → ℕ → Effect → Effect
periods_set s k ticks beat o = first_push_set s k beat s.gossip (with_timer s k ticks PeriodTimer (on_state (λ t. record t { beat = beat }) o))

-- The first period begins at a moment that chance decides, from which memberlist's rules count the others.
unfoldable pub first_period_set : Setup → Key → Effect → Effect
first_period_set s k o =
    let drawn = below_of o.state.words s.swim.spread in
    periods_set s k (1 + drawn.0) (k.at + (1 + drawn.0)) (on_state (λ t. record t { words = drawn.1 }) o)

-- whether a member is another one that starts at moment 0
abbrev pub is_first_other : Setup → ℕ → ℕ → Bool
is_first_other s m other = nat_eq (start_of s other) 0 && not (nat_eq other m)

-- all of these, in the order of their numbers
unfoldable pub first_others : Setup → ℕ → List ℕ
first_others s m = filter (is_first_other s m) (range_with_len 0 (member_count s))

-- A member that starts at moment 0 knows all others that do, and probes them.
unfoldable pub began : Setup → Key → Effect → Effect
began s k o =
    let others = first_others s k.to in
    first_period_set s k (on_state (first_round (profile_of s))
    (on_state (λ t. record t { phase = Running; incarnation = 0; table = all_alive others; rota = round_over others }) o))
