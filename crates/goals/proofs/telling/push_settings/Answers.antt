use Rattle.std.proofs.Common.{◌≡◌, ◌∙◌, ◌<◌, ◌≤◌, ◌++◌, [], ap, arith, get_or, length, string_bytes, sym, take}
use Rattle.std.proofs.lemmas.List.{take_all}
use Rattle.std.proofs.lemmas.Option.{slice_get-get_or}
use Rattle.sweep_plan.specs.Settings.{settings_of}
use Rattle.sweep_plan.proofs.Choices.{length-settings_of}
use Rattle.goals.specs.Answers.{setting_told}
use Rattle.goals.proofs.Lines.{line_added, lines_of}
use Rattle.goals.proofs.telling.push_settings.Goals as goal

pub loop-number-preserved : goal.loop-number-preserved
loop-number-preserved c =
    let swept_keys = c.args.plan.now.swept_keys in
    let settings = settings_of swept_keys in
    let place = c.loop-number.number in
    let same : length settings ≡ length c.args.settings.now = length-settings_of swept_keys ∙ sym c.requires.all in
    let within : place < length settings = omega (arith, same, c.loop-number-test.true) in
    let there = slice_get-get_or settings place [] within in
    line_added (setting_told c.args.wants.now) settings c.args.settings.now place (get_or settings place []) _ _ _ _ same there c.loop-number.invariant (c.in_ok-push_setting.ensures (get_or settings place []) there)

pub returns : goal.returns
returns c =
    let swept_keys = c.args.plan.now.swept_keys in
    let settings = settings_of swept_keys in
    let place = c.loop-number.number in
    let line = setting_told c.args.wants.now in
    let start = string_bytes c.args.text.now in
    let same : length settings ≡ length c.args.settings.now = length-settings_of swept_keys ∙ sym c.requires.all in
    let all : length c.args.settings.now ≤ place = omega (arith, c.loop-number-test.false) in
    c.loop-number.invariant ∙ ap (λ l. start ++ lines_of line l (take place c.args.settings.now)) (take_all place settings (omega (arith, same, all)))
    ∙ ap (λ l. start ++ lines_of line settings l) (take_all place c.args.settings.now all)
