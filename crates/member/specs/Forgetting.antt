-- Whom a member forgets by memberlist 0.5.0's rules (state.go: resetNodes): where a round of probes is over, those that it has held dead for longer
-- than the dead are gossiped to. Of who is forgotten it knows nothing any more.
use Rattle.std.specs.Prelude.{ℕ, zero, suc, ◌+◌, ◌&&◌, ◌==◌, Bool, false, nat_lt, if◌then◌else◌, length, Option, Some, None}
use Rattle.std.specs.FinMap.{get, remove}
use Rattle.base.specs.declared.key.Key.{Key}
use Rattle.scenario.specs.Setup.{Setup, member_count}
use Rattle.scenario.specs.declared.settings.Gossip as settings
use Rattle.trace.specs.declared.row.What.TheVariants as what
use Rattle.incarnation.specs.declared.Claim.{Claim}
use Rattle.membership.specs.Table.{is_confirm}
use Rattle.member.specs.State.{State}
use Rattle.member.specs.Effects.{Effect, on_state, with_row}

-- for how many ticks the dead are kept: as long as they are gossiped to
abbrev pub kept_for : Option settings.Gossip → ℕ
kept_for None = 0
kept_for (Some gossip) = gossip.dead

-- whether a member that is held so, and as dead since a moment, has been dead for longer than so many ticks
abbrev pub is_long_dead : ℕ → ℕ → ℕ → Claim → Bool
is_long_dead now kept since claim = is_confirm claim && nat_lt (since + kept) now

-- nothing is held of a member any more
abbrev pub without_entry : ℕ → State → State
without_entry member t = record t { table = remove t.table member }

-- by what is held of a member it is forgotten or not
abbrev pub forgotten_if : Setup → Key → ℕ → Option (Claim × ℕ) → Effect → Effect
forgotten_if s k member None o = o
forgotten_if s k member (Some held) o =
    if is_long_dead k.at (kept_for s.gossip) (o.state.since member) held.0
    then with_row k what.Forget (Some member) held.1 false (on_state (without_entry member) o)
    else o

-- Among the first members, so many of them, in the order of their numbers.
unfoldable pub all_forgotten : Setup → Key → ℕ → Effect → Effect
all_forgotten s k zero o = o
all_forgotten s k (suc n) o =
    let before = all_forgotten s k n o in
    forgotten_if s k n (get before.state.table n) before

-- A round that is over ends.
unfoldable pub round_ended : Setup → Key → Effect → Effect
round_ended s k o = if o.state.rota.mark == length o.state.rota.members then all_forgotten s k (member_count s) o else o
