use Rattle.std.proofs.Common.{take}
use Rattle.sweep_plan.specs.Keys.{keys_of_table}
use Rattle.sweep_plan.specs.Listed.{NamesNone}
use Rattle.sweep_plan.proofs.listed.key_in_list.Given as goal

abbrev pub invariant-loop-row : goal.invariant-loop-row
invariant-loop-row l = NamesNone (keys_of_table l.list (take l.row-index l.rows)) l.word
