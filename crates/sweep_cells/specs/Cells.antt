-- Cells of tables.
use Rattle.std.specs.Prelude.{ℕ, List, ◌++◌, Option, codes}
use Rattle.drawing.specs.Escaped.{escaped, markup}
use Rattle.sweep_cells.specs.Words.{time_words}
use Rattle.ticks.specs.declared.tick.Tick.{Tick}

-- a cell with a text
unfoldable pub cell : List ℕ → List ℕ
cell text = markup (codes "<td>") ++ escaped text ++ markup (codes "</td>")

-- a cell with a time
unfoldable pub time_cell : Option Tick → Option ℕ → List ℕ
time_cell time ticks = markup (codes "<td>") ++ time_words time ticks ++ markup (codes "</td>")
