-- The choice of some members of a group.
use Rattle.std.specs.Prelude.{ℕ, zero, suc, Bool, not, List, filter, length, nat_eq, nat_le, if◌then◌else◌, Option, Some, None}
use Rattle.std.specs.List.{list_any, remove}
use Rattle.streams.specs.Draw.{Words, below_of}

-- what is left of the items where one at a drawn place is taken out, so many times over
abbrev pub left_after : ℕ → List ℕ → Words → List ℕ × Words
left_after zero items words = (items, words)
left_after (suc times) items words =
    let place = below_of words (length items) in
    left_after times (remove items place.0) place.1

-- whether an item is among the items
abbrev pub is_among : List ℕ → ℕ → Bool
is_among items item = list_any (λ other. nat_eq other item) items

-- So many of the items, in the items' order: those that are taken out. Where no number is said, or as many as
-- there are, all are chosen, and nothing is drawn.
abbrev pub chosen_of : Option ℕ → List ℕ → Words → List ℕ × Words
chosen_of None items words = (items, words)
chosen_of (Some count) items words =
    if nat_le (length items) count then (items, words)
    else (let left = left_after count items words in (filter (λ item. not (is_among left.0 item)) items, left.1))
