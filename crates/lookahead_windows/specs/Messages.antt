-- What the parts of a cluster send each other in a round.
use Rattle.std.specs.Prelude.{◌≡◌, ◌≢◌, ◌↔◌, ◌⊎◌, ℕ, ◌<◌, ◌≤◌, List, [], ◌∷◌, Option}
use Rattle.std.specs.List.{AllByRecursion, flat_map}
use Rattle.base.specs.declared.key.Key.{Key}
use Rattle.base.specs.Rising.{IsRising}
use Rattle.trace.specs.declared.row.Row.{Row}
use Rattle.worker_queue.specs.Queue.{NoneIsBelow}
use Rattle.member.specs.declared.event_kind.EventKind.{EventKind}
use Rattle.member.specs.State.{State}
use Rattle.member.specs.Step.{step}
use Rattle.member_laws.specs.Runs.{Cluster}
use Rattle.windows.specs.Parts.{Window, IsWindowOfItsPart, part_of, for_own, is_in}
use Rattle.lookahead_windows.specs.Plan.{Plan, bound_of}
use Rattle.lookahead_windows.specs.Starts.{IsUpTo, IsRound}

-- A part as a round begins, and what is known with it: it is its part of the round's world, and this is the first moment
-- that pends anywhere in that world.
pub record BeginsRound (plan : Plan) (part round : ℕ) (first : Option ℕ) (p : Cluster) : Type 0 where
  pub world : Cluster
  pub in_round : IsRound plan round world first
  pub cut : p ≡ part_of (is_in plan.division part) world

-- the window of its part in this round: in the round's world, and below the part's bound
pub record IsWindowOfRound (plan : Plan) (round : ℕ) (window : Window State EventKind Row) : Type 0 where
  pub world : Cluster
  pub first : Option ℕ
  pub in_round : IsRound plan round world first
  pub runs : IsWindowOfItsPart (step plan.setup) plan.division (bound_of plan first) world window

-- the least moment after a window, of what pends in the part and of what went out of it
abbrev pub IsLeastAfter : Window State EventKind Row → Option ℕ → Type 0
IsLeastAfter window least =
    (t : ℕ) → (NoneIsBelow window.after.pending t × AllByRecursion (λ (e : Key × EventKind). t ≤ e.0.at) window.out) ↔ IsUpTo least t

-- What one part sends another in a round: of the events that went out of its window those for the other's members, and the
-- least moment after its window. All this is a function of the plan and the round.
pub record IsMessage (plan : Plan) (from to round : ℕ) (events : List (Key × EventKind)) (least : Option ℕ) : Type 0 where
  pub window : Window State EventKind Row
  pub sender : window.part ≡ from
  pub runs : IsWindowOfRound plan round window
  pub told : events ≡ for_own (is_in plan.division to) window.out
  pub after : IsLeastAfter window least

-- one of these has that number
abbrev pub IsOneOf : {X : Type 0} → (X → ℕ) → List X → ℕ → Type 0
IsOneOf number [] n = ⊥
IsOneOf number (x ∷ xs) n = (number x ≡ n) ⊎ IsOneOf number xs n

-- a message that came: the part that sent it, the events and the least moment
pub record Message : Type 0 where
  pub from : ℕ
  pub events : List (Key × EventKind)
  pub least : Option ℕ

abbrev pub sender_of : Message → ℕ
sender_of message = message.from

-- the events of all these messages
abbrev pub all_events : List Message → List (Key × EventKind)
all_events = flat_map (λ (m : Message). m.events)

-- Messages of a round that came to a part, one from each other part.
pub record AreOfAllOthers (plan : Plan) (part round : ℕ) (messages : List Message) : Type 0 where
  pub each : AllByRecursion (λ (m : Message). IsMessage plan m.from part round m.events m.least) messages
  pub others : AllByRecursion (λ (m : Message). (part ≢ m.from) × (m.from < plan.parts)) messages
  pub different : IsRising (λ (m n : Message). m.from ≢ n.from) messages
  pub complete : (other : ℕ) → other < plan.parts → (part ≡ other) ⊎ IsOneOf sender_of messages other

-- the least of a part's own least moment and of all that it was sent
abbrev pub IsLeastOfAll : Option ℕ → List Message → Option ℕ → Type 0
IsLeastOfAll own messages least = (t : ℕ) → (IsUpTo own t × AllByRecursion (λ (m : Message). IsUpTo m.least t) messages) ↔ IsUpTo least t
