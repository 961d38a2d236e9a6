-- How many runs a setting has.
use Rattle.std.proofs.Common.{ℕ, suc, suc-mul, ◌+◌, ◌<◌, ◌≤◌, ◌*◌, ◌==◌, List, Option, Some, None, not, length, drop, get_or, arith}
use Rattle.std.specs.Prelude.{All}
use Rattle.std.proofs.lemmas.Nat.{mul-le}
use Rattle.std.proofs.lemmas.List.{length-take}
use Rattle.std.proofs.lemmas.List.Sums.{count_by-le-length}
use Rattle.std.proofs.lemmas.Option.{slice_get-get_or}
use Rattle.goals.specs.Wants.{HasFewRuns}
use Rattle.sweep_plan.specs.Asked.{AsksForSeeds}
use Rattle.sweep_plan.proofs.Choices.{settings_some}
use Rattle.sweep_plan.specs.Sweep.{Sweep, setting_count, seed_count}
use Rattle.sweep_plan.specs.declared.seeds.Seeds.{Seeds}
use Rattle.figures.specs.Settings.{IsSummaryOf}
use Rattle.figures.specs.Notes.{Note}
use Rattle.figures.specs.declared.summary.SettingSummary.{SettingSummary}
use Rattle.sweep.specs.Runs.{IsAskedFor}
use Rattle.sweep.specs.Summaries.{SumUp, runs_of_setting}

seeds_some : (words : Option (List ℕ)) (seeds : Option Seeds) → AsksForSeeds words seeds → 0 < seed_count seeds
seeds_some None None asks = omega arith
seeds_some None (Some r) asks = absurd asks
seeds_some (Some word) None asks = absurd asks
seeds_some (Some word) (Some r) asks = omega (arith, asks.ordered)

-- a setting has a run at least
pub some_runs : (sweep : Sweep) → IsAskedFor sweep → 0 < seed_count sweep.seeds
some_runs sweep asked = seeds_some asked.seeds sweep.seeds asked.asked.seeded

-- and no more than there are in all
pub few_runs : (sweep : Sweep) → IsAskedFor sweep → seed_count sweep.seeds ≤ 1000000
few_runs sweep asked =
    let each = seed_count sweep.seeds in
    omega (arith, asked.asked.few, mul-le 1 each (setting_count sweep.swept_keys) each (settings_some sweep.swept_keys asked.asked.swept_keys.axes.sound) (omega arith))

-- the runs of a setting are among all
pub setting_inside : (settings each number : ℕ) → number < settings → number * each + each ≤ settings * each
setting_inside settings each number low = omega (arith, suc-mul number each, mul-le (suc number) each settings each (omega (arith, low)) (omega arith))

-- a setting that sums up few runs has few
pub few_of : (setting : SettingSummary) (runs : List Note) → length runs ≤ 1000000 → IsSummaryOf setting runs → HasFewRuns setting
few_of setting runs few is =
    let all = is.all in
    let with = is.with_thrown in
    record { few = omega (arith, few, all); within = omega (arith, count_by-le-length (λ run. not (run.thrown_out == 0)) runs, all, with) }

-- and so have settings of few runs each
pub few_with_all : (each : ℕ) (notes : List Note) (settings : List SettingSummary) → each ≤ 1000000 → SumUp each notes settings → All HasFewRuns settings
few_with_all each notes settings few summed i d inside =
    let size = length-take each (drop (i * each) notes) in
    few_of (get_or settings i d) (runs_of_setting each notes i) (omega (arith, size, few)) (summed i (get_or settings i d) (slice_get-get_or settings i d inside))
