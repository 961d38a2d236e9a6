-- What a worker knows in a round.
use Rattle.std.specs.Prelude.{◌≡◌, ◌≢◌, ℕ, ◌+◌, ◌<◌, List, [], map, unwrap_or, Option}
use Rattle.std.specs.List.{slice_get}
use Rattle.std.specs.FinMap.{FinMap}
use Rattle.base.specs.Order.{key_cmp}
use Rattle.trace.specs.declared.row.Row.{Row}
use Rattle.member.specs.declared.event.Event.{Event}
use Rattle.member.specs.declared.event_kind.EventKind.{EventKind}
use Rattle.member.specs.State.{State}
use Rattle.member.specs.StateOf.{pair_of}
use Rattle.windows.specs.declared.part.Part.{Part}
use Rattle.windows.specs.Parts.{Window}
use Rattle.windows.specs.WorldOf.{world_of}
use Rattle.lookahead_windows.specs.Starts.{HasRunTo}
use Rattle.lookahead_windows.specs.Messages.{BeginsRound, IsMessage, IsWindowOfRound, IsLeastAfter}
use Rattle.lookahead_windows.specs.Lots.{IsLot}
use Rattle.parallel_run.specs.declared.rows.Gathered.{Gathered}
use Rattle.lookahead_windows.specs.Basis.{Basis, division_of, plan_of}
use Rattle.lookahead_windows.specs.Windows.{AreDealt, Ran}

module _ {Q : Type 0} (set : Q → FinMap key_cmp Event) where
  -- the window of the part of that number in this round gave that
  pub record HasRanRound (basis : Basis) (number round : ℕ) (ran : Ran Q) : Type 0 where
    pub window : Window State EventKind Row
    pub own : window.part ≡ number
    pub runs : IsWindowOfRound (plan_of basis) round window
    pub after : window.after ≡ world_of set ran.part
    pub to : HasRunTo (plan_of basis) (round + 1) number ran.until
    pub rows : window.rows ≡ ran.rows
    pub out : List Event
    pub sent : window.out ≡ map pair_of out
    pub dealt : AreDealt (division_of basis) basis.deal.parts out ran.out
    pub least : IsLeastAfter window ran.least

  -- the part of that number is as its window in this round left it, and this is the least moment after it
  pub record AfterWindow (basis : Basis) (number round : ℕ) (least : Option ℕ) (part : Part Q) : Type 0 where
    pub window : Window State EventKind Row
    pub own : window.part ≡ number
    pub runs : IsWindowOfRound (plan_of basis) round window
    pub after : window.after ≡ world_of set part
    pub least_is : IsLeastAfter window least

  -- the part of that number begins the round, and this is the first moment that pends anywhere
  abbrev pub Begins : Basis → ℕ → ℕ → Option ℕ → Part Q → Type 0
  Begins basis number round first part = BeginsRound (plan_of basis) number round first (world_of set part)

-- what a worker sends each other one in the round: the list of its events, and the least moment
abbrev pub CanTell : Basis → ℕ → ℕ → Option ℕ → List (List Event) → Type 0
CanTell basis own round least lists = (to : ℕ) → to < basis.deal.parts → to ≢ own
    → IsMessage (plan_of basis) own to round (map pair_of (unwrap_or (slice_get lists to) [])) least

-- the rows of the part of that number since its last lot, before the moment
abbrev pub GathersUpTo : Basis → ℕ → ℕ → Gathered → Type 0
GathersUpTo basis number to gathered = IsLot basis.setup (division_of basis) number gathered.since to gathered.rows.items

-- up to where the part has run as the round begins
abbrev pub GathersSoFar : Basis → ℕ → ℕ → Gathered → Type 0
GathersSoFar basis number round gathered = (to : ℕ) × HasRunTo (plan_of basis) round number to × GathersUpTo basis number to gathered
