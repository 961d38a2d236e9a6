-- memberlist's queue of broadcasts (queue.go, TransmitLimitedQueue): what putting and picking make of it. A queue that resets begins its ids anew when it is empty, as
-- memberlist's does: so one id can come twice, two items can get one key, and one of them is lost.
use Rattle.std.specs.Prelude.{ℕ, ◌+◌, ◌==◌, ◌&&◌, Bool, not, nat_lt, if◌then◌else◌, Option, Some, None, List, [], ◌∷◌, ◌++◌, length, filter, refl}
use Rattle.std.specs.Coded.{Coded, code_by, coded_list, coded_ℕ, coded×}
use Rattle.std.specs.Ordering.{nat_cmp}
use Rattle.std.specs.FinMap.{FinMap, code, empty, get, insert, remove}
use Rattle.incarnation.specs.declared.Update.{Update}
use Rattle.broadcast_queue.specs.declared.items.Item.{Item}
use Rattle.broadcast_queue.specs.contracts.items.Item as item
use Rattle.broadcast_queue.specs.Items.{goes_before, has_key_of, sent_once_more}

-- the set of items by key, for each subject at most one pointer to an item, which may have left the set, and the counter of ids
pub record Queue : Type 0 where
  pub items : List Item
  pub pointers : FinMap nat_cmp Item
  pub counter : ℕ

-- what tells queues apart
abbrev pub queue_code : Coded Queue
queue_code =
    code_by (List Item × (FinMap nat_cmp Item × ℕ)) (coded× (coded_list item.the_row.coded) (coded× (code coded_ℕ item.the_row.coded) coded_ℕ))
    (λ q. (q.items, (q.pointers, q.counter))) (λ p. record { items = p.0; pointers = p.1.0; counter = p.1.1 }) (λ _. refl)

abbrev pub new_queue : Queue
new_queue = record { items = []; pointers = empty; counter = 0 }

-- x among the items by key. One that had x's key is lost.
abbrev pub placed : Item → List Item → List Item
placed x items = filter (λ it. goes_before it x) items ++ x ∷ filter (λ it. goes_before x it) items

-- the items but the one of x's key, if there is one
abbrev pub other_items : Item → List Item → List Item
other_items x items = filter (λ it. not (has_key_of x it)) items

-- the counter after a deletion that left these items
abbrev pub counter_with : Bool → List Item → ℕ → ℕ
counter_with resets items counter = if resets && length items == 0 then 0 else counter

-- x is deleted: the item of x's key leaves the set, whichever it is, and the pointer of x's subject goes
unfoldable pub without : Bool → Item → Queue → Queue
without resets x queue = record {
  items = other_items x queue.items;
  pointers = remove queue.pointers x.update.subject;
  counter = counter_with resets (other_items x queue.items) queue.counter;
}

-- x is added: the pointer of an item that is lost stays
unfoldable pub with_item : Item → Queue → Queue
with_item x queue = record {
  items = placed x queue.items;
  pointers = insert queue.pointers x.update.subject x;
  counter = queue.counter;
}

-- what the pointer points to is deleted, if there is one
abbrev pub without_pointed : Bool → Option Item → Queue → Queue
without_pointed resets None queue = queue
without_pointed resets (Some x) queue = without resets x queue

-- the next id is used
abbrev pub with_next_id : Queue → Queue
with_next_id queue = record queue { counter = queue.counter + 1 }

-- an update is put: what the pointer of its subject points to is deleted, though that may have left the set, and the update is added under the next id
unfoldable pub after_put : Bool → Update → ℕ → Queue → Queue
after_put resets update size queue =
    with_item (record { update = update; sent = 0; size = size; id = queue.counter + 1 })
    (without_pointed resets (get queue.pointers update.subject) (with_next_id queue))

-- all of these are deleted, one after another
abbrev pub without_all : Bool → List Item → Queue → Queue
without_all resets [] queue = queue
without_all resets (x ∷ picked) queue = without_all resets picked (without resets x queue)

-- one that was picked comes back as sent once more, unless that was the last time
abbrev pub with_sent : ℕ → Item → Queue → Queue
with_sent limit x queue = if nat_lt (x.sent + 1) limit then with_item (sent_once_more x) queue else queue

abbrev pub with_all_sent : ℕ → List Item → Queue → Queue
with_all_sent limit [] queue = queue
with_all_sent limit (x ∷ picked) queue = with_all_sent limit picked (with_sent limit x queue)

-- These are picked: all are deleted, and then those that were sent fewer than limit times come back.
unfoldable pub after_pick : Bool → List Item → ℕ → Queue → Queue
after_pick resets picked limit queue = with_all_sent limit picked (without_all resets picked queue)
