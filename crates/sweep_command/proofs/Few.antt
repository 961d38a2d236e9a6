-- How many runs the settings of a sweep have.
use Rattle.std.proofs.Common.{ℕ, ◌+◌, ◌-◌, List, [], ◌∷◌, Option, Some, None, arith, map}
use Rattle.std.specs.Prelude.{All}
use Rattle.std.specs.List.{AllZip, range_with_len}
use Rattle.std.proofs.lemmas.List.Elements.{All-cons, All-nil}
use Rattle.toml.specs.Data.{Data}
use Rattle.sweep_plan.specs.Sweep.{Sweep, seed_count}
use Rattle.figures.specs.declared.summary.SettingSummary.{SettingSummary}
use Rattle.goals.specs.Wants.{HasFewRuns}
use Rattle.sweep.specs.Runs.{IsAskedFor, Made, noted}
use Rattle.sweep.proofs.Sizes.{few_of, few_runs, few_with_all}
use Rattle.shards.specs.Shards.{whole}
use Rattle.sweep_until.specs.Shards.{settings_in, first_setting}
use Rattle.sweep_until.specs.Until.{IsMadeUntil, SumsUp}
use Rattle.sweep_command.specs.Runs.{AreRuns, AreSummedUp, MakesRuns, RunsBy}

module _ (tree : Data) (plan : Sweep) (asked : IsAskedFor plan) where
  -- each with a list of runs of its own, that are no more
  few_with_own : (width : ℕ) (numbers : List ℕ) (made : List (List Made)) (settings : List SettingSummary) → AllZip (IsMadeUntil tree plan width) numbers made → AllZip SumsUp made settings
      → All HasFewRuns settings
  few_with_own width [] [] [] are sums = All-nil HasFewRuns
  few_with_own width [] [] (setting ∷ settings) are sums = absurd sums
  few_with_own width [] (runs ∷ made) settings are sums = absurd are
  few_with_own width (number ∷ numbers) [] settings are sums = absurd are
  few_with_own width (number ∷ numbers) (runs ∷ made) [] are sums = absurd sums
  few_with_own width (number ∷ numbers) (runs ∷ made) (setting ∷ settings) are sums =
      All-cons HasFewRuns setting settings
      (few_of setting (map noted runs) (omega (arith, are.0.enough.few, few_runs plan asked)) sums.0)
      (few_with_own width numbers made settings are.1 sums.1)

  few_by : (until : Option ℕ) (made : RunsBy until) (settings : List SettingSummary) → AreRuns until tree plan made → AreSummedUp until plan made settings → All HasFewRuns settings
  few_by None made settings are sums = few_with_all (seed_count plan.seeds) (map noted made) settings (few_runs plan asked) sums
  few_by (Some width) made settings are sums = few_with_own width (range_with_len (first_setting plan whole + 0) (settings_in plan whole - 0)) made settings are sums

pub few_runs_each : (until : Option ℕ) (tree : Data) (mark : List ℕ) (plan : Sweep) (old new : Option (List ℕ)) (settings : List SettingSummary) → IsAskedFor plan
    → MakesRuns until tree mark plan old new settings → All HasFewRuns settings
few_runs_each until tree mark plan old new settings asked makes = few_by tree plan asked until makes.made settings makes.are makes.summed
