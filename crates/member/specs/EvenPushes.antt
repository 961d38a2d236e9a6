-- How often members push all that they know, and when they begin to by memberlist 0.5.0's rules (state.go: pushPullTrigger): evenly over the
-- period of the pushes, as in a cluster that has been up for long.
use Rattle.std.specs.Prelude.{ℕ, ◌+◌, ◌*◌, ◌^◌, count_by, nat_lt}
use Rattle.std.specs.List.{range_with_len}
use Rattle.base.specs.declared.key.Key.{Key}
use Rattle.scenario.specs.Setup.{Setup}
use Rattle.scenario.specs.Profile.{profile_of}
use Rattle.membership.specs.Table.{size_by}
use Rattle.streams.specs.Draw.{below_of}
use Rattle.member.specs.declared.event_kind.EventKind.TheVariants.{PushTimer}
use Rattle.member.specs.Effects.{Effect, on_state, with_event}

-- how many doublings bring 32 to a number, if it is more
abbrev pub doublings_to : ℕ → ℕ
doublings_to n = count_by (λ m. nat_lt (32 * 2 ^ m) n) (range_with_len 0 n)

-- how often all that is known is sent to another member, in a cluster of n: one period longer for each doubling of more than 32 members
abbrev pub push_period : ℕ → ℕ → ℕ
push_period push n = push * (1 + doublings_to n)

-- The push timer comes after the beat, in a period of the pushes, at a moment that chance decides.
unfoldable pub even_push_begun : Setup → Key → ℕ → ℕ → Effect → Effect
even_push_begun s k beat push o =
    let drawn = below_of o.state.words (push_period push (size_by (profile_of s) o.state.table)) in
    with_event s k (beat + 1 + drawn.0) k.to PushTimer (on_state (λ t. record t { words = drawn.1 }) o)
