use Rattle.std.proofs.Common.{◌≡◌, string_bytes, take}
use Rattle.sweep.specs.Sums.{value_cells}
use Rattle.sweep.proofs.summing.value_cells.Given as goal

-- the cells of the first values
abbrev pub invariant-loop-choice : goal.invariant-loop-choice
invariant-loop-choice l = string_bytes l.cells ≡ value_cells (take l.choice-index l.setting)
