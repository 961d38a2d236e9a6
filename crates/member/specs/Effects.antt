-- What a member makes of an event, piece by piece.
use Rattle.std.specs.Prelude.{ℕ, ◌+◌, Bool, [], ◌∷◌, ◌++◌, length, Option}
use Rattle.base.specs.declared.key.Key.{Key}
use Rattle.base.specs.World.{Outcome}
use Rattle.scenario.specs.Setup.{Setup, awake}
use Rattle.trace.specs.declared.row.Row.{Row}
use Rattle.trace.specs.declared.row.What.{What}
use Rattle.member.specs.declared.event_kind.EventKind.{EventKind}
use Rattle.member.specs.State.{State}

-- the state, and the events and the rows that the handling of an event has made so far
abbrev pub Effect : Type 0
Effect = Outcome State EventKind Row

-- at first nothing
abbrev pub unchanged : State → Effect
unchanged t = record { state = t; events = []; rows = [] }

-- a change of the state alone
abbrev pub on_state : (State → State) → Effect → Effect
on_state f o = record { state = f o.state; events = o.events; rows = o.rows }

-- The next row of the event: it carries the event's key, and its place among the rows of the event.
unfoldable pub with_row : Key → What → Option ℕ → ℕ → Bool → Effect → Effect
with_row k tells about value lost o = record {
  state = o.state;
  events = o.events;
  rows = o.rows ++ (record { at = k.at; member = k.to; from = k.from; number = k.number; index = length o.rows; what = tells; about = about; value = value; lost = lost }) ∷ [];
}

-- A member numbers what it sends and the timers that it sets, in one order.
unfoldable pub with_number : State → State
with_number t = record t { next_number = t.next_number + 1 }

-- An event of the member's making takes the next number. What is due while its receiver is paused waits for the end of the pause.
unfoldable pub with_event : Setup → Key → ℕ → ℕ → EventKind → Effect → Effect
with_event s k at to content o = record {
  state = record o.state { next_number = o.state.next_number + 1 };
  events = o.events ++ ((record { at = awake s to at; to = to; from = k.to; number = o.state.next_number }), content) ∷ [];
  rows = o.rows;
}

-- a timer of one's own, so many ticks from now
unfoldable pub with_timer : Setup → Key → ℕ → EventKind → Effect → Effect
with_timer s k ticks content o = with_event s k (k.at + ticks) k.to content o
