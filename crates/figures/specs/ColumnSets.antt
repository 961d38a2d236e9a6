-- Which columns a table has that not all tables have.
use Rattle.std.specs.Prelude.{Bool, true, false}
use Rattle.figures.specs.declared.column_set.ColumnSet.{ColumnSet}
use Rattle.figures.specs.declared.column_set.ColumnSet.TheVariants.{First, WithRevived, WithIncidents}

-- how often members were taken for alive again
abbrev pub has_revived : ColumnSet → Bool
has_revived First = false
has_revived WithRevived = true
has_revived WithIncidents = true

-- incidents
abbrev pub has_incidents : ColumnSet → Bool
has_incidents First = false
has_incidents WithRevived = false
has_incidents WithIncidents = true
