-- The members that start again: when one had a first table, and who said then that it is alive.
use Rattle.std.specs.Prelude.{ℕ, Bool, ◌&&◌, ◌==◌, None, List, [], ◌∷◌, map, filter, find, count_by, if◌then◌else◌}
use Rattle.std.specs.List.{last_or, list_any}
use Rattle.trace.specs.declared.row.What.TheVariants as what
use Rattle.trace.specs.declared.row.Row.{Row}
use Rattle.trace_rows.specs.Rows.{Placed, rows_in_place, has_kind, tells_of}
use Rattle.trace_rows.specs.Moments.{moment_of}
use Rattle.incidents.specs.declared.returns.Return.{Return}
use Rattle.incidents.specs.Lives.{members, ends}

-- the row ends a life of the member
abbrev pub ends_life : ℕ → Row → Bool
ends_life m row = (row.member == m) && ends row

-- the rows up to the one with which the member crashes or leaves
abbrev pub life_of : ℕ → List Row → List Row
life_of m [] = []
life_of m (row ∷ rows) = if ends_life m row then [] else row ∷ life_of m rows

-- the member has a first table
abbrev pub joins : ℕ → Row → Bool
joins m row = (row.member == m) && has_kind what.Joined row

-- member i says that member m is alive
abbrev pub greets : ℕ → ℕ → Row → Bool
greets m i row = (row.member == i) && tells_of what.Alive m row

-- a return of a member at a moment, with what the rows of the life behind it tell
abbrev pub return_with : ℕ → ℕ → ℕ → List Row → Return
return_with count m at life =
    record {
      member = m;
      at = at;
      joined = moment_of (find (joins m) life);
      back = moment_of (last_or None (filter (tells_of what.Alive m) life));
      holders = count_by (λ i. list_any (greets m i) life) (members count);
    }

-- the return that a row tells of
abbrev pub return_told : ℕ → Placed → Return
return_told count p = return_with count p.row.member p.row.at (life_of p.row.member p.later)

-- the row tells of a return
abbrev pub is_return : Placed → Bool
is_return p = has_kind what.Restart p.row

-- the rows that do, in their places
abbrev pub returns_in : List Row → List Placed
returns_in rows = filter is_return (rows_in_place rows)

-- the returns of a trace, in its order
abbrev pub returns_of : ℕ → List Row → List Return
returns_of count rows = map (return_told count) (returns_in rows)
