-- the choices of the best setting
use Rattle.std.proofs.Common.{◌∙◌, ◌<◌, ◌++◌, [], ap, arith, get_or, length, string_bytes, sym}
use Rattle.std.proofs.lemmas.Option.{slice_get-get_or}
use Rattle.sweep_plan.specs.Settings.{settings_of}
use Rattle.sweep_plan.proofs.Choices.{length-settings_of}
use Rattle.goals.specs.Answers.{best_line}
use Rattle.goals.proofs.Feeds.{each_cells}
use Rattle.goals.proofs.telling.push_best.Goals as goal

pub returns-in-Some : goal.returns-in-Some
returns-in-Some c =
    let swept_keys = c.args.plan.now.swept_keys in
    let settings = settings_of swept_keys in
    let place = c.in-Some.place in
    let within : place < length settings = omega (arith, length-settings_of swept_keys, c.requires place c.in-Some.is) in
    each_cells c.push_best_setting.result _ _ c.push_best_setting.ensures
    (λ told. told (get_or settings place []) (slice_get-get_or settings place [] within) ∙ ap (λ best. string_bytes c.args.text.now ++ best_line settings best) (sym c.in-Some.is))
