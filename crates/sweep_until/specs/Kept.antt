-- What is kept of the runs of one setting.
use Rattle.std.specs.Prelude.{◌≡◌, ℕ, List}
use Rattle.figures.specs.Settings.{runs_with}
use Rattle.figures.specs.Kept.{AreFiguresOf, runs_kept}
use Rattle.figures.specs.Notes.{Note}
use Rattle.sweep_until.specs.declared.runs.SettingRuns.{SettingRuns}

-- their figures, and how many of them have a false death
pub record AreKept (runs : List Note) (kept : SettingRuns) : Type 0 where
  pub figures : AreFiguresOf kept.figures runs
  pub with_thrown : kept.runs_with ≡ runs_with runs

-- how many runs there are
abbrev pub runs_in : SettingRuns → ℕ
runs_in kept = runs_kept kept.figures
