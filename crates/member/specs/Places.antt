-- Where a row stands in the trace.
use Rattle.std.specs.Prelude.{ℕ}
use Rattle.base.specs.declared.key.Key.{Key}
use Rattle.trace.specs.declared.row.Row.{Row}

-- the key of the event that wrote the row, and how many rows that event wrote before it: its first five fields
abbrev pub place_of : Row → Key × ℕ
place_of row = (record { at = row.at; to = row.member; from = row.from; number = row.number }, row.index)
