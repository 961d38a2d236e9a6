use Rattle.std.proofs.Common.{◌∙◌, ap}
use Rattle.sweep.specs.Sums.{value_cells}
use Rattle.sweep.proofs.FirstSeed.{its_seed, no_seed, some_of_all}
use Rattle.sweep.proofs.first_seeds.seed_of_line.Goals as goal

pub planned-requires-clause-within : goal.planned-requires-clause-within
planned-requires-clause-within c = some_of_all c.args.plan.now c.requires.asked

pub returns-clause-some : goal.returns-clause-some
returns-clause-some c =
    let laid = c.as_bytes.ensures.value ∙ c.in_ok-values.ensures ∙ ap value_cells c.deref.ensures.value in
    its_seed c.args.plan.now c.args.text.now _ c.in_ok-run.run'.setting.items c.in_ok-run.run'.seed c.in_ok-run.ensures.run c.in_ok-run.ensures.fits laid c.seed_behind.result c.seed_behind.ensures.some

pub returns-clause-none : goal.returns-clause-none
returns-clause-none c =
    let laid = c.as_bytes.ensures.value ∙ c.in_ok-values.ensures ∙ ap value_cells c.deref.ensures.value in
    no_seed c.args.plan.now c.args.text.now _ c.in_ok-run.run'.setting.items c.in_ok-run.run'.seed c.in_ok-run.ensures.run c.in_ok-run.ensures.fits laid c.seed_behind.result c.seed_behind.ensures.none
