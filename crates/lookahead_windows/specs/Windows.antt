-- The window of a part in a round, and what it gives for the others.
use Rattle.std.specs.Prelude.{◌≡◌, ◌↔◌, ℕ, ◌≤◌, ◌<◌, List, map, Option, Some}
use Rattle.std.specs.List.{AllByRecursion, slice_get}
use Rattle.std.specs.Option.{option_map}
use Rattle.std.specs.FinMap.{FinMap}
use Rattle.base.specs.Order.{key_cmp}
use Rattle.worker_queue.specs.Queue.{NoneIsBelow}
use Rattle.member.specs.declared.event.Event.{Event}
use Rattle.member.specs.StateOf.{pair_of}
use Rattle.member_laws.specs.Runs.{Cluster}
use Rattle.windows.specs.Parts.{for_own, is_in}
use Rattle.windows.specs.Window.{RunsWindow}
use Rattle.windows.specs.WorldOf.{world_of}
use Rattle.lookahead_windows.specs.Starts.{IsUpTo}
use Rattle.windows.specs.declared.part.Part.{Part}
use Rattle.trace.specs.declared.row.Row.{Row}
use Rattle.lookahead_windows.specs.Basis.{Basis, division_of}
use Rattle.lookahead_windows.specs.declared.window.WindowLists.{WindowLists}

-- the lists of these events, for each part those for its members
abbrev pub AreDealt : (ℕ → ℕ) → ℕ → List Event → List (List Event) → Type 0
AreDealt division parts events lists =
    (i : ℕ) → i < parts → option_map (map pair_of) (slice_get lists i) ≡ Some (for_own (is_in division i) (map pair_of events))

-- the least moment of what pends in a part and of these events: just before moments up to it there is none
abbrev pub IsLeastOf : Cluster → List Event → Option ℕ → Type 0
IsLeastOf p out least = (t : ℕ) → (NoneIsBelow p.pending t × AllByRecursion (λ (e : Event). t ≤ e.key.at) out) ↔ IsUpTo least t

-- What the window of a part gave: the part after it, before which moment it stayed, the rows in the order made, the events that
-- went out, for each part those for its members, and the least moment of what then pends or went out.
pub record Ran (Q : Type 0) : Type 0 where
  pub part : Part Q
  pub until : ℕ
  pub rows : List Row
  pub out : List (List Event)
  pub least : Option ℕ

-- what it gave, by the lists that hold it
abbrev pub ran_in : {Q : Type 0} → Part Q → ℕ → WindowLists → Option ℕ → Ran Q
ran_in part until lists least = record { part = part; until = until; rows = lists.made.rows.items; out = map (λ list. list.items) lists.out.items; least = least }

-- the window of this part below the bound gave that
pub record HasRan {Q : Type 0} (set : Q → FinMap key_cmp Event) (basis : Basis) (bound : ℕ) (before : Cluster) (ran : Ran Q) : Type 0 where
  pub out : List Event
  pub until : ran.until ≡ bound
  pub window : RunsWindow basis.setup bound before out ran.rows (world_of set ran.part)
  pub dealt : AreDealt (division_of basis) basis.deal.parts out ran.out
  pub least : IsLeastOf (world_of set ran.part) out ran.least
