-- Pushes over connections by memberlist 0.5.0's rules (state.go: pushPullTrigger): the next one comes a push period after the end of the last.
use Rattle.std.specs.Prelude.{ℕ, ◌+◌, nat_eq, if◌then◌else◌, List, [], ◌∷◌, Option, Some, None}
use Rattle.base.specs.declared.key.Key.{Key}
use Rattle.scenario.specs.Setup.{Setup}
use Rattle.scenario.specs.Profile.{profile_of}
use Rattle.scenario.specs.declared.settings.Gossip.{Gossip}
use Rattle.membership.specs.Table.{size_by}
use Rattle.membership.specs.declared.candidates.Fitting.TheVariants.{AliveBut}
use Rattle.probing.specs.Samples.{sample_of}
use Rattle.member.specs.declared.event_kind.EventKind.TheVariants.{PushTimer}
use Rattle.member.specs.Effects.{Effect, on_state, with_event, with_timer}
use Rattle.member.specs.EvenPushes.{push_period}
use Rattle.member.specs.Connections.{with_words, dial_drawn, dial_done, push_dialed}
use Rattle.member.specs.Choices.{candidates_for}

-- a connection for a push is opened to a member, and the next push comes so long after that is done
unfoldable pub push_opened : Setup → Key → ℕ → ℕ → Effect → Effect
push_opened s k period to o =
    let drawn = dial_drawn s k to o.state in
    with_event s k (dial_done s k drawn.0 + period) k.to PushTimer (push_dialed s k to drawn.0 (on_state (with_words drawn.1) o))

-- to the first of those who are chosen; where nobody is, the next push comes so long after now
abbrev pub push_opened_to : Setup → Key → ℕ → List ℕ → Effect → Effect
push_opened_to s k period [] o = with_timer s k period PushTimer o
push_opened_to s k period (to ∷ others) o = push_opened s k period to o

-- One who is held to be up is chosen.
unfoldable pub dialed_push : Setup → Key → ℕ → Effect → Effect
dialed_push s k push o =
    let drawn = sample_of o.state.words 1 (candidates_for k (AliveBut k.to) o.state) in
    push_opened_to s k (push_period push (size_by (profile_of s) o.state.table)) drawn.0 (on_state (with_words drawn.1) o)

-- where members push
abbrev pub dialed_push_due : Setup → Key → Option Gossip → Effect → Effect
dialed_push_due s k None o = o
dialed_push_due s k (Some gossip) o = if nat_eq gossip.push 0 then o else dialed_push s k gossip.push o
