use Rattle.std.proofs.Common.{◌≡◌, ◌/◌, ◌%◌, Some, subst}
use Rattle.std.specs.Prelude.{slice_get}
use Rattle.sweep_plan.specs.Settings.{settings_of}
use Rattle.sweep.specs.Runs.{seeds_of}
use Rattle.sweep.proofs.Flat.{run_at}
use Rattle.sweep.proofs.planned.planned.Goals as goal

pub returns-clause-run : goal.returns-clause-run
returns-clause-run c =
    let plan = c.args.plan.now in
    let each = c.runs_of_setting-each.ensures in
    let number = c.args.number in
    let seed = c.seed_at-seed.result in
    run_at plan number c.in_ok-setting.setting.items seed
    (subst (λ m. slice_get (settings_of plan.swept_keys) (number / m) ≡ Some c.in_ok-setting.setting.items) each c.in_ok-setting.ensures.setting)
    (subst (λ m. slice_get (seeds_of plan.seeds) (number % m) ≡ Some seed) each
    (subst (λ s. slice_get (seeds_of s) (number % c.runs_of_setting-each.result) ≡ Some seed) c.seeds.ensures c.seed_at-seed.ensures.seed))

pub returns-clause-fits : goal.returns-clause-fits
returns-clause-fits c = c.in_ok-setting.ensures.fits c.requires.asked.asked.swept_keys.axes.sound
