-- The seed in the line of a sweep's first run.
use Rattle.std.specs.Prelude.{◌≡◌, ◌==◌, ℕ, List, ◌∷◌, ◌++◌, All, false}
use Rattle.decimals.specs.Numbers.{IsDecimal}
use Rattle.sweep_plan.specs.Sweep.{Sweep}
use Rattle.sweep.specs.Sums.{HasLineOf}
use Rattle.sweep.specs.declared.summing.LineKey.{LineKey}

-- the text has this cell behind a checksum, metadata and the values of a setting
pub record HasCell (values text cell : List ℕ) : Type 0 where
  pub sum : List ℕ
  pub metadata : List ℕ
  pub behind : List ℕ
  pub spaceless : All (λ byte. (byte == 32) ≡ false) sum
  pub one : All (λ byte. (byte == 44) ≡ false) metadata
  pub only : All (λ byte. (byte == 44) ≡ false) cell
  pub written : text ≡ sum ++ 32 ∷ (metadata ++ 44 ∷ (values ++ (cell ++ 44 ∷ behind)))

-- the cell is this number
pub record HasSeed (values text : List ℕ) (seed : ℕ) : Type 0 where
  pub cell : List ℕ
  pub there : HasCell values text cell
  pub says : IsDecimal cell seed

-- this is the seed of the line of the first run with which the text begins, whatever makes that genuine
abbrev pub IsItsSeed : Sweep → List ℕ → ℕ → Type 0
IsItsSeed sweep text seed = (key : LineKey) (has : HasLineOf key sweep 0 text) → has.1.is.placed.cells.seed ≡ seed
