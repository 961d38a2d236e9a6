-- What is made of each item of a list by its place.
use Rattle.std.specs.Prelude.{ℕ, List, [], flat_map, length, slice_get}
use Rattle.std.specs.List.{range_with_len}
use Rattle.std.specs.Option.{option_map_or}

-- what is made of the item at a place of a list, if there is one
abbrev pub made_at : {A B : Type 0} → (ℕ → A → List B) → List A → ℕ → List B
made_at make xs k = option_map_or (make k) (slice_get xs k) []

-- what is made of each of the first n items
abbrev pub made_below : {A B : Type 0} → (ℕ → A → List B) → List A → ℕ → List B
made_below make xs n = flat_map (made_at make xs) (range_with_len 0 n)

-- what is made of each item
abbrev pub made_of_each : {A B : Type 0} → (ℕ → A → List B) → List A → List B
made_of_each make xs = made_below make xs (length xs)
