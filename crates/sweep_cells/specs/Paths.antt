-- Paths, corner by corner.
use Rattle.std.specs.Prelude.{ℕ, List, ◌++◌, codes, decimal}

-- a path begins at a corner, across and down from the top
unfoldable pub path_start : ℕ → ℕ → List ℕ
path_start at height = codes "M" ++ decimal at ++ codes " " ++ decimal height

-- it goes straight to another
unfoldable pub path_step : ℕ → ℕ → List ℕ
path_step at height = codes "L" ++ decimal at ++ codes " " ++ decimal height
