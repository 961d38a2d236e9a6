use Rattle.std.proofs.Common.{◌≡◌, ◌<◌, ◌≤◌, ◌++◌, [], ap, sym, ◌∙◌, arith, length, get_or, take}
use Rattle.std.proofs.lemmas.List.{take_all}
use Rattle.std.proofs.lemmas.Option.{slice_get-get_or}
use Rattle.sweep_plan.specs.Settings.{settings_of}
use Rattle.sweep.specs.Texts.{lines_of_settings, marked_header, widths_of}
use Rattle.sweep.proofs.SettingTexts.{line_added}
use Rattle.sweep.proofs.Flat.{settings_counted}
use Rattle.sweep.proofs.texts.lines_of_settings.Goals as goal

pub loop-number-preserved : goal.loop-number-preserved
loop-number-preserved c =
    let swept_keys = c.args.plan.now.swept_keys in
    let settings = settings_of swept_keys in
    let place = c.loop-number.number in
    let same : length settings ≡ length c.args.settings.now = settings_counted swept_keys ∙ sym c.requires in
    let within : place < length settings = omega (arith, same, c.loop-number-test.true) in
    let there = slice_get-get_or settings place [] within in
    let wide = c.deref-in-loop-number.ensures.value ∙ c.in_ok-widths.ensures ∙ ap widths_of c.swept_keys.ensures in
    line_added c.args.columns (widths_of swept_keys) c.args.settings.now _ settings c.args.settings.now place (get_or settings place []) _ _ _ _ wide same there c.loop-number.invariant
    (c.in_ok-push_setting.ensures (get_or settings place []) there)

pub returns : goal.returns
returns c =
    let swept_keys = c.args.plan.now.swept_keys in
    let settings = settings_of swept_keys in
    let widths = widths_of swept_keys in
    let head = marked_header c.args.columns swept_keys in
    let place = c.loop-number.number in
    let same : length settings ≡ length c.args.settings.now = settings_counted swept_keys ∙ sym c.requires in
    let all : length c.args.settings.now ≤ place = omega (arith, c.loop-number-test.false) in
    c.loop-number.invariant ∙ ap (λ l. head ++ lines_of_settings c.args.columns widths c.args.settings.now l (take place c.args.settings.now)) (take_all place settings (omega (arith, same, all)))
    ∙ ap (λ l. head ++ lines_of_settings c.args.columns widths c.args.settings.now settings l) (take_all place c.args.settings.now all)
