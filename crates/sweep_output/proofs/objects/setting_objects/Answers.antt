use Rattle.std.proofs.Common.{◌≡◌, ◌∙◌, ◌<◌, ◌≤◌, ◌++◌, [], ap, arith, get_or, length, refl, string_bytes, sym}
use Rattle.std.proofs.lemmas.Option.{slice_get-get_or}
use Rattle.sweep_plan.specs.Settings.{settings_of}
use Rattle.sweep_plan.proofs.Choices.{length-settings_of}
use Rattle.sweep_output.specs.Objects.{setting_object, members_of, object_line}
use Rattle.sweep_output.proofs.Lines.{no_rest, one_line}
use Rattle.sweep_output.proofs.objects.setting_objects.Goals as goal

pub loop-place-preserved : goal.loop-place-preserved
loop-place-preserved c =
    let swept_keys = c.args.plan.now.swept_keys in
    let choices = settings_of swept_keys in
    let settings = c.args.settings.now in
    let wants = c.args.wants.now in
    let best = c.best_of-best.result in
    let place = c.loop-place.place in
    let old = string_bytes c.loop-place.text in
    let same : length choices ≡ length settings = length-settings_of swept_keys ∙ sym c.requires.all in
    let within : place < length choices = omega (arith, same, c.loop-place-test.true) in
    let there = slice_get-get_or choices place [] within in
    let setting = get_or settings place _ in
    one_line (setting_object c.args.columns wants settings best) choices settings place (get_or choices place []) setting _ old _ same c.loop-place-test.true there refl
    (c.in_ok-push_setting.ensures (get_or choices place []) there
    ∙ ap (λ b. old ++ object_line (members_of c.args.columns wants settings b (get_or choices place []) setting)) c.is_at-is_best.ensures)
    ∙ c.loop-place.invariant

pub returns : goal.returns
returns c =
    let swept_keys = c.args.plan.now.swept_keys in
    let choices = settings_of swept_keys in
    let settings = c.args.settings.now in
    let place = c.loop-place.place in
    let same : length choices ≡ length settings = length-settings_of swept_keys ∙ sym c.requires.all in
    let all : length settings ≤ place = omega (arith, c.loop-place-test.false) in
    record {
      best = c.best_of-best.result;
      chosen = c.best_of-best.ensures;
      told = sym (no_rest (setting_object c.args.columns c.args.wants.now settings c.best_of-best.result) choices settings place (string_bytes c.loop-place.text) all same) ∙ c.loop-place.invariant;
    }
