-- The axes of a sweep: keys that go together.
use Rattle.std.specs.Prelude.{ℕ, Bool, false, if◌then◌else◌, List, [], ◌∷◌, get_or, length}
use Rattle.sweep_plan.specs.Sweep.{KeyValues}
use Rattle.sweep_plan.specs.declared.values.SweptValue.{SweptValue}
use Rattle.sweep_plan.specs.declared.values.SweptValue.TheVariants.{Whole}

-- the value of a key at a place; 0 at a place where it has none, which is never asked for where keys that go together have as many values
abbrev pub value_at : KeyValues → ℕ → SweptValue
value_at s place = get_or s.values place (Whole 0)

-- the first of these keys goes together with one before it
abbrev pub goes_on : List KeyValues → Bool
goes_on [] = false
goes_on (s ∷ more) = s.together

-- a key ahead of axes: the first key of the first of them, where that goes on; else an axis of its own
abbrev pub ahead : KeyValues → List (List KeyValues) → List (List KeyValues)
ahead s [] = (s ∷ []) ∷ []
ahead s (axis ∷ axes) = if goes_on axis then (s ∷ axis) ∷ axes else (s ∷ []) ∷ axis ∷ axes

-- keys that go together are one axis
abbrev pub axes_of : List KeyValues → List (List KeyValues)
axes_of [] = []
axes_of (s ∷ more) = ahead s (axes_of more)

-- at how many places the keys of an axis have values: as many as its first
abbrev pub place_count : List KeyValues → ℕ
place_count [] = 0
place_count (s ∷ more) = length s.values
