-- How many members are in a state, span by span.
use Rattle.std.specs.Prelude.{ℕ, zero, suc, ◌+◌, ◌-◌, ◌^◌, nat_eq, if◌then◌else◌, List, ◌∷◌, map, min, max, length, replicate, slice_index}
use Rattle.std.specs.List.{range_with_len}

-- how many are in a state before a span, where so many are at first: those who came to it since, without those who went from it
abbrev pub level : (ℕ → ℕ) → (ℕ → ℕ) → ℕ → ℕ → ℕ
level came went first zero = first
level came went first (suc span) = level came went first span + came span - went span

-- what is shown of a span: the number at its end or, where that is 0, 1 where some member came to the state
abbrev pub shown : ℕ → ℕ → ℕ
shown came after = if nat_eq after 0 then min came 1 else after

-- how high a span is drawn, where nothing is higher than `most`
abbrev pub height : (ℕ → ℕ) → (ℕ → ℕ) → ℕ → ℕ → ℕ → ℕ
height came went first most span = min (shown (came span) (level came went first (span + 1))) most

-- how high each of so many spans is drawn
abbrev pub heights : (ℕ → ℕ) → (ℕ → ℕ) → ℕ → ℕ → ℕ → List ℕ
heights came went spans first most = map (height came went first most) (range_with_len 0 spans)

-- heights on top of others
abbrev pub stacked : List ℕ → List ℕ → ℕ → List ℕ
stacked bases heights most = map (λ place. min (slice_index bases place + slice_index heights place) most) (range_with_len 0 (min (length bases) (length heights)))

-- nothing in each of so many spans
abbrev pub flat : ℕ → List ℕ
flat spans = replicate spans 0

-- an axis that shows this height: it isn't empty, and below 2^63
abbrev pub axis_height : ℕ → ℕ
axis_height most = min (max most 1) (2 ^ 63 - 1)

-- what stands before a place, 0 before the first one
abbrev pub before : List ℕ → ℕ → ℕ
before heights place = slice_index (0 ∷ heights) place
