-- How far an entry reaches: how many plain entries it stands for, the first and the last of them.
use Rattle.std.specs.Prelude.{ℕ, ◌+◌, List, [], ◌∷◌, filter, length, nat_eq, nat_lt, if◌then◌else◌, Option, Some, None}
use Rattle.script_summary.specs.declared.happening.Happening.{Happening}
use Rattle.script_summary.specs.declared.extent.Extent.{Extent}

-- those of the text's entry at a place
abbrev pub of_entry : (place : ℕ) → List Happening → List Happening
of_entry place all = filter (λ it. nat_eq it.entry place) all

-- of two that stand so, the one that begins first; at one moment the former
abbrev pub sooner : Happening → Happening → Happening
sooner former latter = if nat_lt latter.from former.from then latter else former

-- the one that begins last; at one moment the latter
abbrev pub later : Happening → Happening → Happening
later former latter = if nat_lt latter.from former.from then former else latter

-- the first and the last of some
abbrev pub first_of : Happening → List Happening → Happening
first_of it [] = it
first_of it (next ∷ rest) = sooner it (first_of next rest)

abbrev pub last_of : Happening → List Happening → Happening
last_of it [] = it
last_of it (next ∷ rest) = later it (last_of next rest)

-- how many they are, the first and the last of them, where there are some
abbrev pub extent_of : List Happening → Option Extent
extent_of [] = None
extent_of (it ∷ rest) = Some (record { count = length (it ∷ rest); first = first_of it rest; last = last_of it rest })

-- of the text's entry at a place
abbrev pub extent_at : List Happening → (place : ℕ) → Option Extent
extent_at all place = extent_of (of_entry place all)

-- one more behind them
abbrev pub extent_with : Option Extent → Happening → Extent
extent_with None it = record { count = 1; first = it; last = it }
extent_with (Some e) it = record { count = e.count + 1; first = sooner e.first it; last = later e.last it }
