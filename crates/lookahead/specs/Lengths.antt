-- A table of lengths from each of 64 parts to each.
use Rattle.std.specs.Prelude.{◌≡◌, ℕ, ◌+◌, ◌*◌, ◌^◌, ◌<◌, List, slice_index_or, sum_by, Option, Some, None}
use Rattle.lookahead.specs.declared.lengths.Lengths.TheInside.{Inside}
use Rattle.lookahead.specs.Least.{sum_of, IsAtMost}

-- the length from one part to another, if there is one
abbrev pub length_at : List (Option ℕ) → ℕ → ℕ → Option ℕ
length_at lengths from to = slice_index_or lengths (64 * from + to) None

abbrev pub entries_of : Inside → List (Option ℕ)
entries_of t = t.entries.items

-- what is not there counts more than all of 64 bits
abbrev pub weight_of : Option ℕ → ℕ
weight_of None = 2 ^ 64
weight_of (Some n) = n

abbrev pub weight : List (Option ℕ) → ℕ
weight lengths = sum_by weight_of lengths

-- by way of none of so many parts is it shorter
abbrev pub IsSettledAt : ℕ → List (Option ℕ) → ℕ → ℕ → Type 0
IsSettledAt parts lengths from to = (way n : ℕ) → way < parts → sum_of (length_at lengths from way) (length_at lengths way to) ≡ Some n → IsAtMost (length_at lengths from to) n
