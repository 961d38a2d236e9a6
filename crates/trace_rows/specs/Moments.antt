-- Moments of rows that may be there.
use Rattle.std.specs.Prelude.{ℕ, Bool, cond, Option, Some, None}
use Rattle.std.specs.Option.{option_map}
use Rattle.trace.specs.declared.row.Row.{Row}

-- the moment of a row, if there is one
abbrev pub moment_of : Option Row → Option ℕ
moment_of row = option_map (λ r. r.at) row

-- a moment, where a test holds
abbrev pub moment_if : Bool → ℕ → Option ℕ
moment_if test at = cond test (Some at) None
