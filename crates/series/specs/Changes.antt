-- Members that pass from state to state, each state by a number from 0, and how many do so in each span.
use Rattle.std.specs.Prelude.{◌≡◌, ℕ, ◌+◌, ◌*◌, ◌<◌, ◌≤◌, ◌^◌, Bool, ◌&&◌, ◌==◌, not, cond, List, [], ◌∷◌, ◌++◌, filter, count_by, None, length, slice_index}
use Rattle.std.specs.List.{last_or, range_with_len}
use Rattle.std.specs.Option.{option_map_or}
use Rattle.series.specs.declared.flows.Flows.{Flows}
use Rattle.series.specs.Grid.{count_at}

-- a row reports that a member is in a state now, which may be the one in which it was
pub record Change : Type 0 where
  pub member : ℕ
  pub state : ℕ
  pub span : ℕ

-- the change is the member's
abbrev pub is_of : ℕ → Change → Bool
is_of member change = change.member == member

-- the state in which a member is after these changes: that of its last one, 0 before any
abbrev pub state_after : List Change → ℕ → ℕ
state_after changes member = option_map_or (λ change. change.state) (last_or None (filter (is_of member) changes)) 0

-- a member comes to a state in a span: it wasn't in it after the changes before
abbrev pub comes : ℕ → ℕ → List Change → Change → Bool
comes state span earlier change = (state == change.state && span == change.span) && not (state == state_after earlier change.member)

-- a member goes from a state in a span: it was in it after the changes before
abbrev pub goes : ℕ → ℕ → List Change → Change → Bool
goes state span earlier change = (state == state_after earlier change.member && span == change.span) && not (state == change.state)

-- how many of these changes, each with those before it, pass a test, where others stand before them all
abbrev pub passing_after : (List Change → Change → Bool) → List Change → List Change → ℕ
passing_after test earlier [] = 0
passing_after test earlier (change ∷ later) = cond (test earlier change) 1 0 + passing_after test (earlier ++ change ∷ []) later

-- how often members came to a state in a span, and how often they went from it
abbrev pub came : ℕ → ℕ → List Change → ℕ
came state span changes = passing_after (comes state span) [] changes

abbrev pub went : ℕ → ℕ → List Change → ℕ
went state span changes = passing_after (goes state span) [] changes

-- what is kept counts these changes, between so many states
pub record AreFlowsOf (states : ℕ) (flows : Flows) (changes : List Change) : Type 0 where
  pub now : (member : ℕ) → slice_index flows.states.items member ≡ state_after changes member
  pub within : (member : ℕ) → slice_index flows.states.items member < states
  pub came : (state span : ℕ) → span < 120 → count_at flows.came state span ≡ came state span changes
  pub went : (state span : ℕ) → span < 120 → count_at flows.went state span ≡ went state span changes

-- they are open for a member, between so many states
pub record AreOpen (member states : ℕ) (flows : Flows) : Type 0 where
  pub members : member < length flows.states.items
  pub came : states * 120 ≤ length flows.came.counts.items
  pub went : states * 120 ≤ length flows.went.counts.items

-- they are open for a member's change to a state, and count few changes
pub record CanChange (flows : Flows) (member state : ℕ) : Type 0 where
  pub states : ℕ
  pub changes : List Change
  pub told : AreFlowsOf states flows changes
  pub few : length changes < 2 ^ 63
  pub within : state < states
  pub room : AreOpen member states flows

-- how many of so many members are in a state after these changes
abbrev pub holding : ℕ → ℕ → List Change → ℕ
holding members state changes = count_by (λ member. state_after changes member == state) (range_with_len 0 members)
