-- The rows that contracts alone see.
use Rattle.std.specs.Prelude.{List, [], ◌∷◌, ◌++◌}
use Rattle.trace.specs.declared.row.Row.{Row}
use Rattle.reports.specs.declared.past.Link.{Link}
use Rattle.reports.specs.declared.past.Link.TheVariants.{Start, After}

-- the rows so far, in order
abbrev pub linked_rows : Link → List Row
linked_rows Start = []
linked_rows (After before last) = before.value ++ last.value ∷ []
