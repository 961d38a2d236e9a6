-- The rows of a finished trace: which of them a figure of the report counts, and where they stand.
use Rattle.std.specs.Prelude.{ℕ, Bool, false, ◌&&◌, ◌==◌, List, [], ◌∷◌, ◌++◌, map, filter, count_by, max, unwrap_or}
use Rattle.std.specs.Option.{option_map_or}
use Rattle.std.specs.List.{reduce}
use denote.Enum.Bare.{sameb}
use Rattle.trace.specs.contracts.row.What.{the_type}
use Rattle.trace.specs.declared.row.What.{What}
use Rattle.trace.specs.declared.row.What.TheVariants as what
use Rattle.trace.specs.declared.row.Row.{Row}

-- the row is of this kind
abbrev pub has_kind : What → Row → Bool
has_kind kind row = sameb the_type row.what kind

-- the row is about the member
abbrev pub is_about : ℕ → Row → Bool
is_about member row = option_map_or (λ about. about == member) row.about false

-- the row is of this kind and about the member
abbrev pub tells_of : What → ℕ → Row → Bool
tells_of kind member row = has_kind kind row && is_about member row

-- the row is of this kind and about a message that was lost
abbrev pub tells_lost : What → Row → Bool
tells_lost kind row = has_kind kind row && row.lost

-- how many rows are of this kind
abbrev pub count_of : What → List Row → ℕ
count_of kind rows = count_by (has_kind kind) rows

-- how many sendings of this kind were lost
abbrev pub losses_of : What → List Row → ℕ
losses_of kind rows = count_by (tells_lost kind) rows

-- the highest local health counter that any member reached (Lifeguard's LHA-Probe): the greatest value of a health row, 0 without one
abbrev pub worst_health : List Row → ℕ
worst_health rows = unwrap_or (reduce max (map (λ row. row.value) (filter (has_kind what.Health) rows))) 0

-- a row in its place: what stands before it in the trace, and what after
pub record Placed : Type 0 where
  pub earlier : List Row
  pub row : Row
  pub later : List Row

-- each of these rows in its place, where others stand before them all
abbrev pub placed_after : List Row → List Row → List Placed
placed_after earlier [] = []
placed_after earlier (row ∷ later) = record { earlier = earlier; row = row; later = later } ∷ placed_after (earlier ++ row ∷ []) later

-- each row of a trace in its place
abbrev pub rows_in_place : List Row → List Placed
rows_in_place rows = placed_after [] rows
