-- Who is up: a member is from its start or restart row to its crash or leave row.
use Rattle.std.specs.Prelude.{ℕ, Bool, false, ◌&&◌, ◌||◌, ◌==◌, Option, None, List, filter, if◌then◌else◌}
use Rattle.std.specs.Option.{option_map_or}
use Rattle.std.specs.List.{last_or, list_any, range_with_len}
use Rattle.trace.specs.declared.row.What.TheVariants as what
use Rattle.trace.specs.declared.row.Row.{Row}
use Rattle.trace_rows.specs.Rows.{has_kind}

-- a test as a number
abbrev pub weight : Bool → ℕ
weight b = if b then 1 else 0

-- the members of a cluster of so many
abbrev pub members : ℕ → List ℕ
members count = range_with_len 0 count

-- the last of the rows that pass a test
abbrev pub last_row : (Row → Bool) → List Row → Option Row
last_row test rows = last_or None (filter test rows)

-- the row begins a life of its member: it starts, or starts again
abbrev pub begins : Row → Bool
begins row = has_kind what.Start row || has_kind what.Restart row

-- the row ends one: its member crashes or leaves
abbrev pub ends : Row → Bool
ends row = has_kind what.Crash row || has_kind what.Leave row

-- the row begins or ends a life
abbrev pub is_turn : Row → Bool
is_turn row = begins row || ends row

-- it is one of the member's
abbrev pub is_turn_of : ℕ → Row → Bool
is_turn_of m row = (row.member == m) && is_turn row

-- the member is up
abbrev pub is_up : List Row → ℕ → Bool
is_up rows m = option_map_or begins (last_row (is_turn_of m) rows) false

-- the row starts the member again
abbrev pub restarts : ℕ → Row → Bool
restarts m row = (row.member == m) && has_kind what.Restart row

-- the member has started again
abbrev pub has_restarted : List Row → ℕ → Bool
has_restarted rows m = list_any (restarts m) rows
