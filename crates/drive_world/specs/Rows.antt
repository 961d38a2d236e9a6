-- Rows of a drive by the events that wrote them.
use Rattle.std.specs.Prelude.{Bool, not, List, filter}
use Rattle.std.specs.Ordering.{is_lt}
use Rattle.base.specs.declared.key.Key.{Key}
use Rattle.base.specs.Order.{key_cmp}
use Rattle.trace.specs.declared.row.Row.{Row}
use Rattle.member.specs.Places.{place_of}

-- the key of the event that wrote a row
abbrev pub key_of : Row → Key
key_of row = (place_of row).0

-- whether a row is of an event before this one
abbrev pub is_row_before : Key → Row → Bool
is_row_before key row = is_lt (key_cmp (key_of row) key)

-- the rows of the events before one, and the others
abbrev pub rows_before : Key → List Row → List Row
rows_before key rows = filter (is_row_before key) rows

abbrev pub rows_from : Key → List Row → List Row
rows_from key rows = filter (λ row. not (is_row_before key row)) rows
