use Rattle.std.proofs.Common.{◌-◌, ◌^◌, ℕ, List, Bor, min, map, option_map, ap, ◌∙◌}
use Rattle.sweep_plan.specs.Sweep.{setting_count}
use Rattle.sweep_plan.proofs.Planning.{too_many}
use Rattle.sweep_plan.proofs.plan.Plan.read.Goals as goal

pub returns-then-runs-gt-MOST_RUNS-clause-refused : goal.returns-then-runs-gt-MOST_RUNS-clause-refused
returns-then-runs-gt-MOST_RUNS-clause-refused c sweep is =
    too_many (map (λ (word : Bor (List ℕ)). word.now) c.args.swept_keys.now) (option_map (λ (text : Bor (List ℕ)). text.now) c.args.seeds) c.args.until c.in-Ok.chosen.items c.in-Ok-read_seeds.range
    c.in-Ok.ensures.read c.in-Ok-read_seeds.ensures.read c.setting_count-settings.result c.seed_count-each.result c.saturating_mul-runs.result
    (c.setting_count-settings.ensures ∙ ap (λ l. min (setting_count l) (2 ^ 64 - 1)) c.deref.ensures.value) c.seed_count-each.ensures c.saturating_mul-runs.ensures c.if-runs-gt-MOST_RUNS.true sweep is
