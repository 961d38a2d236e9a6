-- How the code keeps a queue: the items in order, and those that were lost while their subject's pointer stays. All other pointers point to items of the set.
use Rattle.std.specs.Prelude.{◌≡◌, ℕ, ◌+◌, ◌≤◌, Bool, true, false, List, [], ◌∷◌, ◌++◌, map, count_by, vec_len, vec_capacity}
use Rattle.std.specs.List.{AllByRecursion}
use Rattle.std.specs.FinMap.{from_entries}
use Rattle.broadcast_queue.specs.declared.contents.Contents.{Contents}
use Rattle.broadcast_queue.specs.declared.items.Item.{Item}
use Rattle.broadcast_queue.specs.Items.{goes_before, has_key_of, is_about, those_that_fit}
use Rattle.broadcast_queue.specs.declared.items.Measure.{Measure}
use Rattle.broadcast_queue.specs.Broadcasts.{Queue}

-- each under its subject
abbrev pub keyed : List Item → List (ℕ × Item)
keyed items = map (λ it. (it.update.subject, it)) items

unfoldable pub queue_of : List Item → List Item → ℕ → Queue
queue_of items lost counter = record { items = items; pointers = from_entries (keyed (items ++ lost)); counter = counter }

-- each goes before all later ones
abbrev pub IsInOrder : List Item → Type 0
IsInOrder [] = Unit {0}
IsInOrder (x ∷ items) = AllByRecursion (λ y. goes_before x y ≡ true) items × IsInOrder items

-- what a queue has, as a queue
abbrev pub held : Contents → Queue
held contents = queue_of contents.items.items contents.lost.items contents.counter

-- how many of the items and the lost ones are about a subject
abbrev pub count_about : ℕ → Contents → ℕ
count_about subject contents = count_by (is_about subject) (contents.items.items ++ contents.lost.items)

-- the items are in order, and no two of these and the lost ones are about one subject
pub record IsSound (contents : Contents) : Type 0 where
  pub ordered : IsInOrder contents.items.items
  pub distinct : (subject : ℕ) → count_about subject contents ≤ 1

-- there is room for so many more items, and for as many more lost ones
pub record HasRoom (many : ℕ) (contents : Contents) : Type 0 where
  pub for_items : vec_len contents.items + many ≤ vec_capacity contents.items
  pub for_lost : vec_len contents.lost + many ≤ vec_capacity contents.lost

-- whether the first of these has x's key
abbrev pub begins_with_key_of : Item → List Item → Bool
begins_with_key_of x [] = false
begins_with_key_of x (y ∷ items) = has_key_of x y

-- they were picked from these items
abbrev pub ArePicked : List Item → List Item → Type 0
ArePicked picked items = (measure : Measure) × ((room : ℕ) × (picked ≡ those_that_fit measure room items))
