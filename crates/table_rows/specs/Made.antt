-- Runs whose lines can be read again.
use Rattle.std.specs.Prelude.{◌<◌, ◌^◌, All}
use Rattle.std.specs.Option.{ForSome}
use Rattle.sweep_plan.specs.Values.{FitsToml}
use Rattle.figures.specs.declared.column_set.ColumnSet.{ColumnSet}
use Rattle.figures.specs.Figures.{figures_of}
use Rattle.figures.specs.Lines.{figures_in_order}
use Rattle.figures.specs.Notes.{IsSmall}
use Rattle.sweep.specs.Runs.{Made, noted}

-- it is written in few digits: each of its values, its figures and those of its note is at most 2^63 - 1
pub record FitsLine (m : Made) : Type 0 where
  pub note : IsSmall (noted m)
  pub values : All (λ c. FitsToml c.value) m.setting
  pub seed : m.scenario.seed < 2 ^ 63
  pub figures : (columns : ColumnSet) → All (λ f. ForSome f (λ n. n < 2 ^ 63)) (figures_in_order columns (figures_of m.scenario m.rows))
