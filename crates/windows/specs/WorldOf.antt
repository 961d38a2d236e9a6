-- The world that a part stands for.
use Rattle.std.specs.Ordering.{nat_cmp}
use Rattle.std.specs.FinMap.{FinMap}
use Rattle.base.specs.Order.{key_cmp}
use Rattle.base.specs.World.{World}
use Rattle.member.specs.declared.event_kind.EventKind.{EventKind}
use Rattle.member.specs.declared.event.Event.{Event}
use Rattle.member.specs.State.{State}
use Rattle.worker_queue.specs.Contents.{contents_by}
use Rattle.windows.specs.ByNumber.{states_of}
use Rattle.windows.specs.declared.own_members.OwnMembers.{OwnMembers}
use Rattle.windows.specs.declared.part.Part.{Part}

-- the states of members by their numbers
abbrev pub states_in : OwnMembers → FinMap nat_cmp State
states_in own = states_of own.places.items own.members.items

abbrev pub content_of : Event → EventKind
content_of event = event.content

-- what events ask, by their keys
abbrev pub contents_in : FinMap key_cmp Event → FinMap key_cmp EventKind
contents_in events = contents_by content_of events

-- a part as a world: its members, and the events that pend for them
abbrev pub world_of : {Q : Type 0} → (Q → FinMap key_cmp Event) → Part Q → World State EventKind
world_of set part = record { members = states_in part.members; pending = contents_in (set part.queue) }
