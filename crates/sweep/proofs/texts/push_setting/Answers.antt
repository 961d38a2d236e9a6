use Rattle.std.proofs.Common.{◌≡◌, ◌++◌, ap, sym, ◌∙◌, length, map}
use Rattle.std.specs.Prelude.{string_bytes}
use Rattle.std.proofs.lemmas.List.{length-map}
use Rattle.std.proofs.lemmas.Option.{same_Some}
use Rattle.sweep_plan.specs.Values.{value_text}
use Rattle.figures.specs.SettingLines.{setting_line, cells_aligned, figure_texts, figure_widths}
use Rattle.goals.specs.Front.{mark_text}
use Rattle.sweep.specs.Table.{texts_of}
use Rattle.sweep.specs.Texts.{column_width}
use Rattle.sweep.proofs.SettingTexts.{setting_long}
use Rattle.sweep.proofs.texts.push_setting.Goals as goal

pub push_setting_line-requires : goal.push_setting_line-requires
push_setting_line-requires c =
    let swept_keys = c.args.plan.now.swept_keys in
    let setting = c.in_ok-setting.setting.items in
    let lent = c.deref-3.result.now in
    let values : map (λ value. value.now) lent ≡ texts_of setting =
    ap (map (λ value. value.now)) c.deref-3.ensures.value ∙ c.in_ok-values.ensures ∙ ap (map string_bytes) c.deref-2.ensures.value ∙ c.in_ok-texts.ensures ∙ ap texts_of c.deref.ensures.value in
    let long : length setting ≡ length swept_keys = setting_long swept_keys c.args.number setting c.in_ok-setting.ensures.setting in
    let many : length lent ≡ length setting = sym (length-map lent (λ value. value.now)) ∙ ap length values ∙ length-map setting (λ chosen. value_text chosen.value) in
    ap length c.requires.wide ∙ length-map swept_keys column_width ∙ sym long ∙ sym many

pub returns : goal.returns
returns c chosen there =
    let setting = c.in_ok-setting.setting.items in
    let values : map (λ value. value.now) c.deref-3.result.now ≡ texts_of setting =
    ap (map (λ value. value.now)) c.deref-3.ensures.value ∙ c.in_ok-values.ensures ∙ ap (map string_bytes) c.deref-2.ensures.value ∙ c.in_ok-texts.ensures ∙ ap texts_of c.deref.ensures.value in
    let same : setting ≡ chosen = same_Some setting chosen (sym c.in_ok-setting.ensures.setting ∙ there) in
    let widths = c.args.widths.now in
    let line : string_bytes c.push_setting_line.new.text ≡ setting_line c.args.columns widths (texts_of chosen) c.args.summary.now =
    c.in_ok-push_setting_line.ensures ∙ ap (λ l. l ++ setting_line c.args.columns widths (map (λ value. value.now) c.deref-3.result.now) c.args.summary.now) c.new-line.ensures.bytes
    ∙ ap (λ l. setting_line c.args.columns widths l c.args.summary.now) (values ∙ ap texts_of same) in
    c.in_ok-push_marked.ensures (cells_aligned (widths ++ figure_widths c.args.columns) (texts_of chosen ++ figure_texts c.args.columns c.args.summary.now)) (c.as_str.ensures.value ∙ line)
    ∙ ap (λ front. string_bytes c.args.text.now ++ (cells_aligned (widths ++ figure_widths c.args.columns) (texts_of chosen ++ figure_texts c.args.columns c.args.summary.now) ++ mark_text front)) c.is_on_front.ensures
