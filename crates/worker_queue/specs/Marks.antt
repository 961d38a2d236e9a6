-- Places that are marked, by the bits of words of 64.
use Rattle.std.specs.Prelude.{◌≡◌, ℕ, ◌<◌, ◌≤◌, ◌/◌, ◌%◌, List, slice_index}
use Rattle.std.specs.Int.{bit_at}

-- 1 at a place that is marked, else 0
abbrev pub mark_at : List ℕ → ℕ → ℕ
mark_at words place = bit_at (slice_index words (place / 64)) (place % 64)

-- no place from this one on is marked
abbrev pub NoneIsMarkedFrom : List ℕ → ℕ → Type 0
NoneIsMarkedFrom words from = (k : ℕ) → from ≤ k → k < 1024 → mark_at words k ≡ 0

-- of the places from this one on, the first that is marked
pub record IsFirstMark (words : List ℕ) (from place : ℕ) : Type 0 where
  pub after : from ≤ place
  pub below : place < 1024
  pub marked : mark_at words place ≡ 1
  pub first : (k : ℕ) → from ≤ k → k < place → mark_at words k ≡ 0
