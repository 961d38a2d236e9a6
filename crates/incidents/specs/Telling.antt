-- Rows of which incidents and returns ask nothing.
use Rattle.std.specs.Prelude.{Bool, not, ◌||◌}
use Rattle.trace.specs.declared.row.What.TheVariants as what
use Rattle.trace.specs.declared.row.Row.{Row}
use Rattle.trace_rows.specs.Rows.{has_kind}
use Rattle.incidents.specs.Lives.{is_turn}
use Rattle.incidents.specs.Views.{views, is_one_of}

-- the row begins or ends no life, says nothing of another member, and isn't one of a first table
abbrev pub reports_nothing : Row → Bool
reports_nothing row = not (is_turn row || (is_one_of views row || has_kind what.Joined row))
