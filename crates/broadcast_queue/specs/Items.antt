-- The items of a queue, the order in which they are sent, and which of them a message takes (memberlist, queue.go).
use Rattle.std.specs.Prelude.{ℕ, ◌+◌, ◌-◌, ◌==◌, ◌||◌, ◌&&◌, Bool, not, nat_lt, nat_le, if◌then◌else◌, Option, Some, None, List, [], ◌∷◌, filter, sum_by}
use Rattle.broadcast_queue.specs.declared.items.Item.{Item}
use Rattle.broadcast_queue.specs.declared.items.Measure.{Measure}
use Rattle.broadcast_queue.specs.declared.items.Measure.TheVariants.{Items, Bytes}

-- whether an item is about the subject
abbrev pub is_about : ℕ → Item → Bool
is_about subject it = it.update.subject == subject

-- whether the key of the first is the lesser one: it was sent fewer times; of two sent as often it is the longer one; of two as long it has the higher id
abbrev pub goes_before : Item → Item → Bool
goes_before x y = nat_lt x.sent y.sent || (x.sent == y.sent && (nat_lt y.size x.size || (x.size == y.size && nat_lt y.id x.id)))

-- whether both have one key
abbrev pub has_key_of : Item → Item → Bool
has_key_of x y = x.sent == y.sent && (x.size == y.size && x.id == y.id)

-- what an item takes from a message's room: one of so many items, or of so many bytes its own and the two that say how long it is
abbrev pub cost : Measure → Item → ℕ
cost Items it = 1
cost Bytes it = it.size + 2

-- The items that are picked into some room: they are gone through once by key, and each that fits into the room left is picked. (What doesn't fit once never fits
-- later, since the room shrinks.)
abbrev pub those_that_fit : Measure → ℕ → List Item → List Item
those_that_fit measure room [] = []
those_that_fit measure room (it ∷ items) =
    if nat_le (cost measure it) room then it ∷ those_that_fit measure (room - cost measure it) items else those_that_fit measure room items

-- what is picked where this one is the first that fits: it, and then of the others what fits into the room left
abbrev pub picks_from : Measure → ℕ → List Item → Option Item → List Item
picks_from measure room items None = []
picks_from measure room items (Some it) =
    it ∷ those_that_fit measure (room - cost measure it) (filter (λ other. not (has_key_of it other)) items)

-- the bytes that are left of a message's room
abbrev pub room_after : ℕ → List Item → ℕ
room_after room items = room - sum_by (cost Bytes) (those_that_fit Bytes room items)

-- an item that was sent once more
abbrev pub sent_once_more : Item → Item
sent_once_more it = record it { sent = it.sent + 1 }
