-- When a cluster is whole: each member that is up holds each other one that is up.
use Rattle.std.specs.Prelude.{ℕ, Bool, not, ◌&&◌, ◌==◌, Option, Some, None, List, [], ◌∷◌, ◌++◌, length, filter, if◌then◌else◌}
use Rattle.std.specs.Option.{option_map_or}
use Rattle.std.specs.List.{last_or, list_any}
use Rattle.trace.specs.declared.row.Row.{Row}
use Rattle.trace_rows.specs.Rows.{Placed, rows_in_place}
use Rattle.incidents.specs.Lives.{members, is_up}
use Rattle.incidents.specs.Views.{holds}

-- both members are up, and the first doesn't hold the second
abbrev pub misses : List Bool → List Row → ℕ → ℕ → Bool
misses founders rows i j = not (i == j) && (is_up rows i && (is_up rows j && not (holds founders rows i j)))

-- no member misses another
abbrev pub is_whole : List Bool → List Row → Bool
is_whole founders rows = not (list_any (λ i. list_any (misses founders rows i) (members (length founders))) (members (length founders)))

-- before the row the cluster isn't whole, after it it is
abbrev pub makes_whole : List Bool → Placed → Bool
makes_whole founders p = not (is_whole founders p.earlier) && is_whole founders (p.earlier ++ p.row ∷ [])

-- the moment of the last row that made it whole, or 0 without one
abbrev pub made_whole_at : List Bool → List Row → ℕ
made_whole_at founders rows = option_map_or (λ p. p.row.at) (last_or None (filter (makes_whole founders) (rows_in_place rows))) 0

-- since when it is whole, where it is at the end
abbrev pub whole_since : List Bool → List Row → Option ℕ
whole_since founders rows = if is_whole founders rows then Some (made_whole_at founders rows) else None
