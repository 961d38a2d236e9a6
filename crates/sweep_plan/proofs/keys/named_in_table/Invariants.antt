use Rattle.std.proofs.Common.{◌≡◌, find, drop}
use Rattle.sweep_plan.specs.Keys.{keys_of_table, is_named}
use Rattle.sweep_plan.proofs.keys.named_in_table.Given as goal

abbrev pub invariant-loop-row : goal.invariant-loop-row
invariant-loop-row l = find (is_named l.word) (keys_of_table l.table l.rows) ≡ find (is_named l.word) (keys_of_table l.table (drop l.row-index l.rows))
