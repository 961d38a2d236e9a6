-- One step of a part's window, as the part makes it.
use Rattle.std.specs.Prelude.{◌≡◌, ℕ, ◌++◌, Bool, true, List, Option, Some, None, map}
use Rattle.std.specs.List.{list_all}
use Rattle.std.specs.Option.{option_map}
use Rattle.std.specs.Ordering.{nat_cmp}
use Rattle.std.specs.FinMap.{FinMap, get, insert}
use Rattle.base.specs.declared.key.Key.{Key}
use Rattle.base.specs.Order.{key_cmp}
use Rattle.base.specs.World.{World, Outcome, rows_of, events_of, with_events}
use Rattle.scenario.specs.Setup.{Setup}
use Rattle.trace.specs.declared.row.Row.{Row}
use Rattle.member.specs.declared.event_kind.EventKind.{EventKind}
use Rattle.member.specs.declared.event.Event.{Event}
use Rattle.member.specs.declared.event.Effects.{Effects}
use Rattle.member.specs.State.{State}
use Rattle.member.specs.Step.{step}
use Rattle.member.specs.StateOf.{pair_of}
use Rattle.member.specs.CounterOverflow.{IsOverflowed}
use Rattle.windows.specs.Parts.{PartStep, for_own, for_others}
use Rattle.windows.specs.Window.{is_own}

-- what the receiver, where it is one of these members, makes of the event
abbrev pub made_of : Setup → FinMap nat_cmp State → Event → Option (Outcome State EventKind Row)
made_of s members event = option_map (step s event.key event.content) (get members event.key.to)

-- the members after it
abbrev pub members_after : FinMap nat_cmp State → Event → Option (Outcome State EventKind Row) → FinMap nat_cmp State
members_after members event None = members
members_after members event (Some o) = insert members event.key.to o.state

-- the event was handled: these are the members after it, and what came of it follows the effects before
pub record Handles (s : Setup) (event : Event) (held held_after : FinMap nat_cmp State) (before after : Effects) : Type 0 where
  pub members : held_after ≡ members_after held event (made_of s held event)
  pub events : map pair_of after.events.items ≡ map pair_of before.events.items ++ events_of (made_of s held event)
  pub rows : after.rows.items ≡ before.rows.items ++ rows_of (made_of s held event)

-- The last of all these events, which are for members of these, pend, and those before them are left.
pub record HaveOwnPended (owns : ℕ → Bool) (pending now : FinMap key_cmp EventKind) (all left : List Event) : Type 0 where
  pub after : List Event
  pub split : all ≡ left ++ after
  pub own : list_all (λ (event : Event). owns event.key.to) after ≡ true
  pub pend : now ≡ with_events pending (map pair_of after)

-- An event that was taken out of a part is handled: this is the part after it, and what its receiver made for others and
-- its rows follow the effects before.
pub record HandlesTaken (s : Setup) (event : Event) (p v : World State EventKind) (before after : Effects) : Type 0 where
  pub members : v.members ≡ members_after p.members event (made_of s p.members event)
  pub pending : v.pending ≡ with_events p.pending (for_own (is_own p) (events_of (made_of s p.members event)))
  pub out : map pair_of after.events.items ≡ map pair_of before.events.items ++ for_others (is_own p) (events_of (made_of s p.members event))
  pub rows : after.rows.items ≡ before.rows.items ++ rows_of (made_of s p.members event)

-- the receiver's step takes a counter past its limit
pub record OverflowsReceiver (s : Setup) (event : Event) (members : FinMap nat_cmp State) : Type 0 where
  pub member : State
  pub there : get members event.key.to ≡ Some member
  pub overflow : IsOverflowed (step s event.key event.content member).state

-- a step of the window leads from p to v, and what it sends out and its rows follow those before
pub record Advances (s : Setup) (owns : ℕ → Bool) (bound : ℕ) (p v : World State EventKind) (before after : Effects) : Type 0 where
  pub key : Key
  pub sent : List (Key × EventKind)
  pub made : List Row
  pub next : PartStep (step s) owns bound p key sent made v
  pub out : map pair_of after.events.items ≡ map pair_of before.events.items ++ sent
  pub rows : after.rows.items ≡ before.rows.items ++ made
