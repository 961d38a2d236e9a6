-- Which updates ride on a message, and what that leaves in the buffer (SWIM, section 4.1; Lifeguard's Buddy System).
use Rattle.std.specs.Prelude.{◌≡◌, ℕ, ◌+◌, ◌≤◌, ◌==◌, ◌||◌, ◌&&◌, Bool, not, nat_lt, if◌then◌else◌, Option, None, IfSome, List, ◌++◌, length, map, filter, find, take, count_by}
use Rattle.std.specs.List.{list_any, filter_map, range_with_len}
use Rattle.std.specs.Option.{option_to_list}
use Rattle.std.specs.Ordering.{nat_cmp}
use Rattle.std.specs.FinMap.{FinMap, entries, values, get, from_entries}
use Rattle.incarnation.specs.declared.Update.{Update}

-- an update, and how often a message carried one of its subject since it was put
abbrev pub Counted : Type 0
Counted = Update × ℕ

-- what a buffer holds: for each subject at most one update
abbrev pub HeldUpdates : Type 0
HeldUpdates = FinMap nat_cmp Counted

-- each update stands under its own subject
abbrev pub IsOwn : HeldUpdates → Type 0
IsOwn held = (subject : ℕ) → IfSome (get held subject) (λ it. it.0.subject ≡ subject)

-- one that was sent fewer times goes first; of two sent as often, the one of the smaller subject
abbrev pub goes_before : Counted → Counted → Bool
goes_before x y = nat_lt x.1 y.1 || (x.1 == y.1 && nat_lt x.0.subject y.0.subject)

-- no two of these are about one subject
abbrev pub AreDistinct : List Counted → Type 0
AreDistinct these = (subject : ℕ) → count_by (λ it. it.0.subject == subject) these ≤ 1

-- how many of these go before it
abbrev pub count_before : List Counted → Counted → ℕ
count_before these it = count_by (λ other. goes_before other it) these

-- these in order: at each place the one that as many of them go before
abbrev pub in_order : List Counted → List Counted
in_order these = filter_map (λ place. find (λ it. count_before these it == place) these) (range_with_len 0 (length these))

-- whether one of these updates is about the subject
abbrev pub is_of_subject : ℕ → List Update → Bool
is_of_subject subject updates = list_any (λ update. update.subject == subject) updates

-- whether it may still be sent: below the limit, and not about the buddy's subject
abbrev pub is_candidate : ℕ → Option Update → Counted → Bool
is_candidate limit buddy it = nat_lt it.1 limit && not (is_of_subject it.0.subject (option_to_list buddy))

-- the updates that a message carries: the buddy, then the candidates in order, carry of them at most
abbrev pub picked : HeldUpdates → ℕ → ℕ → Option Update → List Update
picked held carry limit buddy =
    take carry (option_to_list buddy ++ map (λ it. it.0) (in_order (filter (is_candidate limit buddy) (values held))))

-- it after a message that carried these updates: sent once more if one of them is about its subject
abbrev pub counted_with : List Update → Counted → Counted
counted_with carried it = (it.0, it.1 + (if is_of_subject it.0.subject carried then 1 else 0))

-- what is left after a message carried these: without what was then sent limit times
abbrev pub left_after : HeldUpdates → List Update → ℕ → HeldUpdates
left_after held carried limit =
    from_entries (filter (λ entry. nat_lt entry.1.1 limit) (map (λ entry. (entry.0, counted_with carried entry.1)) (entries held)))

-- what a pick leaves
abbrev pub left_by_pick : HeldUpdates → ℕ → ℕ → Option Update → HeldUpdates
left_by_pick held carry limit buddy = left_after held (picked held carry limit buddy) limit

-- all that were sent fewer than limit times, in order
abbrev pub waiting : HeldUpdates → ℕ → List Update
waiting held limit = map (λ it. it.0) (in_order (filter (is_candidate limit None) (values held)))
