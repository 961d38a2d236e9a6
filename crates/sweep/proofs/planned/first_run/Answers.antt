use Rattle.std.proofs.Common.{◌≡◌, ◌*◌, ap, arith}
use Rattle.sweep_plan.specs.Sweep.{setting_count, seed_count}
use Rattle.sweep.proofs.Sizes.{setting_inside, some_runs}
use Rattle.sweep.proofs.planned.first_run.Goals as goal

pub overflow_mul-result : goal.overflow_mul-result
overflow_mul-result c =
    let plan = c.args.plan.now in
    let same : c.args.setting * c.runs_of_setting.result ≡ c.args.setting * seed_count plan.seeds = ap (λ n. c.args.setting * n) c.runs_of_setting.ensures in
    omega (arith, same, setting_inside (setting_count plan.swept_keys) (seed_count plan.seeds) c.args.setting c.requires.within, c.requires.asked.asked.few)

pub returns-clause-first : goal.returns-clause-first
returns-clause-first c = ap (λ n. c.args.setting * n) c.runs_of_setting.ensures

pub returns-clause-within : goal.returns-clause-within
returns-clause-within c =
    let plan = c.args.plan.now in
    let same : c.args.setting * c.runs_of_setting.result ≡ c.args.setting * seed_count plan.seeds = ap (λ n. c.args.setting * n) c.runs_of_setting.ensures in
    omega (arith, same, setting_inside (setting_count plan.swept_keys) (seed_count plan.seeds) c.args.setting c.requires.within)

pub returns-clause-few : goal.returns-clause-few
returns-clause-few c =
    let plan = c.args.plan.now in
    let same : c.args.setting * c.runs_of_setting.result ≡ c.args.setting * seed_count plan.seeds = ap (λ n. c.args.setting * n) c.runs_of_setting.ensures in
    omega (arith, same, setting_inside (setting_count plan.swept_keys) (seed_count plan.seeds) c.args.setting c.requires.within, c.requires.asked.asked.few)

pub returns-clause-some : goal.returns-clause-some
returns-clause-some c =
    let plan = c.args.plan.now in
    let same : c.args.setting * c.runs_of_setting.result ≡ c.args.setting * seed_count plan.seeds = ap (λ n. c.args.setting * n) c.runs_of_setting.ensures in
    omega (arith, same, setting_inside (setting_count plan.swept_keys) (seed_count plan.seeds) c.args.setting c.requires.within, some_runs plan c.requires.asked)
