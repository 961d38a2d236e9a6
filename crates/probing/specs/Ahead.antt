-- A probe order as it is stored: with the members from the mark on beside it.
use Rattle.std.specs.Prelude.{◌≡◌, ℕ, ◌<◌, ◌≤◌, ◌/◌, ◌%◌, List, length, slice_get, slice_index_or, Some}
use Rattle.probing.specs.ProbeOrder.{IsSoundOrder}

-- the members from a place on, up to the next one that sixteen divides, each at its place modulo sixteen
abbrev pub AreAhead : List ℕ → ℕ → List ℕ → Type 0
AreAhead members from ahead = (place other : ℕ) → from ≤ place → place / 16 ≡ from / 16 → place < length members → slice_get members place ≡ Some (slice_index_or ahead (place % 16) other)

pub record IsStored (members : List ℕ) (mark : ℕ) (sixteen : List ℕ) : Type 0 where
  pub sound : IsSoundOrder (record { members = members; mark = mark })
  pub ahead : AreAhead members mark sixteen
