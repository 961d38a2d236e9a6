-- The window of a part of a scenario's cluster: what it needs, what it is, and how far it reaches.
use Rattle.std.specs.Prelude.{◌≡◌, ℕ, ◌+◌, ◌<◌, ◌≤◌, Bool, true, List, Some, map, All}
use Rattle.std.specs.FinMap.{get, contains_key}
use Rattle.base.specs.declared.key.Key.{Key}
use Rattle.base.specs.World.{World, IsPending}
use Rattle.scenario.specs.Setup.{Setup, member_count, link_between}
use Rattle.trace.specs.declared.row.Row.{Row}
use Rattle.member.specs.declared.event_kind.EventKind.{EventKind}
use Rattle.member.specs.declared.event.Event.{Event}
use Rattle.member.specs.State.{State}
use Rattle.member.specs.Step.{step}
use Rattle.member.specs.StateOf.{pair_of}
use Rattle.member_laws.specs.Words.{IsConsistent, IsAmongMembers}
use Rattle.windows.specs.Parts.{PartWindow}

-- whether this is the number of a member of the part
abbrev pub is_own : World State EventKind → ℕ → Bool
is_own p m = contains_key p.members m

-- A part wherever a run has come: its members are the scenario's, each with a consistent state, each event that
-- pends is among members of the scenario, for one of the part, and has a number that its sender, where that is one of
-- the part too, has used.
pub record IsConsistentPart (s : Setup) (p : World State EventKind) : Type 0 where
  pub members : (m : ℕ) (t : State) → get p.members m ≡ Some t → (m < member_count s) × IsConsistent s m t
  pub events : (k : Key) (c : EventKind) → get p.pending k ≡ Some c → IsAmongMembers s k c
  pub own : (k : Key) → IsPending p k → is_own p k.to ≡ true
  pub numbered : (k : Key) → IsPending p k → (t : State) → get p.members k.from ≡ Some t → k.number < t.next_number

-- The window of the part below the bound: these events go out to members of other parts, these rows are written, and
-- so is the part after it.
abbrev pub RunsWindow : Setup → ℕ → World State EventKind → List Event → List Row → World State EventKind → Type 0
RunsWindow s bound p out rows after = (keys : List Key) × PartWindow (step s) (is_own p) bound p keys (map pair_of out) rows after

-- From any moment on that no pending event of the part is before, each of these events takes at least as long as the
-- link of its pair.
abbrev pub TakeTheirLinks : Setup → World State EventKind → List Event → Type 0
TakeTheirLinks s p events =
    (t : ℕ) → ((q : Key) → IsPending p q → t ≤ q.at) → All (λ (e : Event). t + (link_between s e.key.from e.key.to).delay ≤ e.key.at) events
