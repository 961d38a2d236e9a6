use Rattle.std.proofs.Common.{◌≡◌, find, drop}
use Rattle.std.specs.List.{flat_map}
use Rattle.sweep_plan.specs.Keys.{keys_of_row, is_named}
use Rattle.sweep_plan.proofs.keys.named_by_rows.Given as goal

abbrev pub invariant-loop-row : goal.invariant-loop-row
invariant-loop-row l = find (is_named l.word) (flat_map keys_of_row l.rows) ≡ find (is_named l.word) (flat_map keys_of_row (drop l.row-index l.rows))
