use Rattle.std.proofs.Common.{take}
use Rattle.std.specs.List.{flat_map}
use Rattle.sweep_plan.specs.Keys.{keys_of_items}
use Rattle.sweep_plan.specs.Listed.{NamesNone}
use Rattle.sweep_plan.proofs.listed.key_of_lists.Given as goal

abbrev pub invariant-loop-row : goal.invariant-loop-row
invariant-loop-row l = NamesNone (flat_map keys_of_items (take l.row-index l.rows)) l.word
