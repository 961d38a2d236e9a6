use Rattle.std.proofs.Common.{◌≡◌, ◌++◌, map, take}
use Rattle.std.specs.String.{string_bytes}
use Rattle.figures.specs.SettingLines.{cells_aligned}
use Rattle.figures.proofs.columns.push_cells.Given as goal

-- the cells so far are added
abbrev pub invariant-loop-place : goal.invariant-loop-place
invariant-loop-place l = string_bytes l.text ≡ string_bytes l.fn.text ++ cells_aligned (take l.place l.widths) (map string_bytes (take l.place l.texts))
