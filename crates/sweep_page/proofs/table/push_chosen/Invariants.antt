use Rattle.std.proofs.Common.{◌≡◌, ◌++◌, string_bytes, take}
use Rattle.std.specs.List.{flat_map}
use Rattle.sweep_page.specs.Table.{value_cell}
use Rattle.sweep_page.proofs.table.push_chosen.Given as goal

abbrev pub invariant-loop-choice : goal.invariant-loop-choice
invariant-loop-choice l = string_bytes l.text ≡ string_bytes l.fn.text ++ flat_map (value_cell) (take l.choice-index l.chosen)
