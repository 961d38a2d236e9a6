-- Members that accuse another one on their own evidence.
use Rattle.std.specs.Prelude.{◌≡◌, ℕ, ◌<◌, None, List, length, slice_get, slice_index_or}
use Rattle.series.specs.declared.accusers.Accusation.{Accusation}
use Rattle.series.specs.declared.accusers.Accusers.{Accusers}

-- what is kept are the first four of a list, and how many it has
pub record AreAccusers (accusers : Accusers) (list : List Accusation) : Type 0 where
  pub count : accusers.count ≡ length list
  pub first : (place : ℕ) → place < 4 → slice_index_or accusers.first place None ≡ slice_get list place
