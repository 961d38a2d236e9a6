-- What a `Plan` stands for.
use Rattle.std.specs.Prelude.{◌≡◌, ◌≤◌}
use Rattle.sweep_plan.specs.Sweep.{Sweep, setting_count, seed_count, run_count}
use Rattle.std.specs.Option.{ForSome}
use Rattle.sweep_plan.specs.Asked.{IsWidth}
use Rattle.sweep_plan.specs.declared.plan.Plan.TheInside.{Inside}

abbrev pub sweep_of : Inside → Sweep
sweep_of p = record { swept_keys = p.swept_keys.items; seeds = p.seeds; until = p.until }

-- its counts are those of its settings and seeds, its runs are at most 1,000,000, and its width may be
pub record CountsRuns (p : Inside) : Type 0 where
  pub settings : p.settings ≡ setting_count p.swept_keys.items
  pub each : p.each ≡ seed_count p.seeds
  pub few : run_count (sweep_of p) ≤ 1000000
  pub width : ForSome p.until IsWidth
