-- What is kept of the returns so far.
use Rattle.std.specs.Prelude.{◌≡◌, ◌<◌, ◌≤◌, ◌^◌, ◌++◌, ℕ, Bool, true, false, not, ◌||◌, Option, Some, None, List, [], ◌∷◌, length, if◌then◌else◌}
use Rattle.std.specs.List.{list_any, slice_index_or}
use Rattle.trace.specs.declared.row.What.TheVariants as what
use Rattle.trace.specs.declared.row.Row.{Row}
use Rattle.trace_rows.specs.Rows.{Placed, has_kind}
use Rattle.incidents.specs.declared.lines.Line.{Line}
use Rattle.incidents.specs.declared.lines.Lines.{Lines}
use Rattle.incidents.specs.Lives.{ends}
use Rattle.incidents.specs.OpenPlaces.{places_of, is_among, ArePlaces}
use Rattle.incidents.specs.Returns.{ends_life, greets, return_told, returns_in}

-- a row in its place, with one row more after it
abbrev pub and_later : Row → Placed → Placed
and_later row p = record { earlier = p.earlier; row = p.row; later = p.later ++ row ∷ [] }

-- of whose returns the row may tell something
abbrev pub whom : Row → Option ℕ
whom row = if has_kind what.Alive row then row.about else (if has_kind what.Joined row || ends row then Some row.member else None)

-- the life behind the row goes on
abbrev pub goes_on : Placed → Bool
goes_on p = not (list_any (ends_life p.row.member) p.later)

-- the member is marked as one that has said in that life that its member is alive
abbrev pub is_holder : Line → ℕ → Bool
is_holder line i = slice_index_or line.holders.items i false

-- the line is the row's return so far
pub record IsLineOf (count : ℕ) (line : Line) (p : Placed) : Type 0 where
  pub told : line.told ≡ return_told count p
  pub lives : line.is_open ≡ goes_on p
  pub room : length line.holders.items ≡ count
  pub holders : goes_on p ≡ true → (i : ℕ) → is_holder line i ≡ list_any (greets p.row.member i) p.later

-- the lines are these returns so far, and where those stand that go on is kept
pub record AreLinesAt (lines : Lines) (count : ℕ) (returns : List Placed) : Type 0 where
  pub long : length lines.lines.items ≡ length returns
  pub each : (k : ℕ) (d : Line) (e : Placed) → k < length lines.lines.items → IsLineOf count (slice_index_or lines.lines.items k d) (slice_index_or returns k e)
  pub room : length lines.open_places.of_members.items ≡ count
  pub places : (m : ℕ) → ArePlaces (length lines.lines.items) (places_of lines.open_places m)
  pub listed : (k : ℕ) (d : Line) → k < length lines.lines.items → (slice_index_or lines.lines.items k d).is_open ≡ true
      → is_among k (places_of lines.open_places (slice_index_or lines.lines.items k d).told.member) ≡ true

-- the lines are the returns of these rows so far
abbrev pub AreLinesOf : Lines → ℕ → List Row → Type 0
AreLinesOf lines count rows = AreLinesAt lines count (returns_in rows)

-- the lines at these places have seen a row
abbrev pub AreSeen : Row → List Line → List Line → List ℕ → Type 0
AreSeen row these now places = (count : ℕ) (p : Placed) (k : ℕ) (d : Line) → count ≤ 2 ^ 16 → row.member < count → k < length these → is_among k places ≡ true
    → IsLineOf count (slice_index_or these k d) p → IsLineOf count (slice_index_or now k d) (and_later row p)

-- those elsewhere are as they were
abbrev pub AreLeft : List Line → List Line → List ℕ → Type 0
AreLeft these now places = (k : ℕ) (d : Line) → is_among k places ≡ false → slice_index_or now k d ≡ slice_index_or these k d
