use Rattle.std.proofs.Common.{◌≡◌, ◌≤◌, ◌+◌, drop}
use Rattle.toml_places.specs.Places.{line_from, column_from}
use Rattle.toml_places.proofs.position.position_after.Given as goal

abbrev pub invariant-loop-i : goal.invariant-loop-i
invariant-loop-i l =
    record { lines : line_from l.line (drop l.i l.before) ≡ line_from 1 l.before; columns : column_from l.column (drop l.i l.before) ≡ column_from 1 l.before; few_lines : l.line ≤ l.i + 1; few_columns : l.column ≤ l.i + 1 }
