use Rattle.std.proofs.Common.{◌≡◌, ◌+◌, ◌++◌, length, map, sym, ap, ◌∙◌, subst, length-append}
use Rattle.std.specs.Prelude.{OnOk}
use Rattle.std.specs.String.{string_bytes}
use Rattle.std.proofs.lemmas.List.{length-map}
use Rattle.figures.specs.SettingLines.{aligned, first_texts, some_texts, last_texts, figure_texts, figure_widths}
use Rattle.figures.proofs.Cells.{parts_joined, as_many}
use Rattle.figures.proofs.columns.push_setting_line.Goals as goal

pub push_columns-requires : goal.push_columns-requires
push_columns-requires c =
    let widths = c.args.widths.now in
    let values = map (λ value. value.now) c.args.values.now in
    let setting = c.args.summary.now in
    let told = figure_texts c.args.columns setting in
    let revived = some_texts c.args.columns setting in
    let texts : map string_bytes c.deref.result.now ≡ values ++ told =
    ap (map string_bytes) c.deref.ensures.value ∙ c.in_ok-push_last.ensures ∙ ap (λ l. l ++ last_texts setting) (c.in_ok-push_some.ensures ∙ ap (λ l. l ++ revived) (c.in_ok-push_first.ensures
    ∙ ap (λ l. l ++ first_texts setting) (c.in_ok-push_texts.ensures ∙ ap (λ l. map string_bytes l ++ values) c.new-texts.ensures.items)))
    ∙ parts_joined values (first_texts setting) revived (last_texts setting) in
    sym (length-map c.deref.result.now string_bytes) ∙ ap length texts ∙ length-append values told
    ∙ ap (λ n. n + length told) (length-map c.args.values.now (λ value. value.now) ∙ sym c.requires) ∙ ap (λ n. length widths + n) (as_many c.args.columns setting)

pub returns : goal.returns
returns c =
    let widths = c.args.widths.now in
    let values = map (λ value. value.now) c.args.values.now in
    let setting = c.args.summary.now in
    let revived = some_texts c.args.columns setting in
    let texts : map string_bytes c.deref.result.now ≡ values ++ figure_texts c.args.columns setting =
    ap (map string_bytes) c.deref.ensures.value ∙ c.in_ok-push_last.ensures ∙ ap (λ l. l ++ last_texts setting) (c.in_ok-push_some.ensures ∙ ap (λ l. l ++ revived) (c.in_ok-push_first.ensures
    ∙ ap (λ l. l ++ first_texts setting) (c.in_ok-push_texts.ensures ∙ ap (λ l. map string_bytes l ++ values) c.new-texts.ensures.items)))
    ∙ parts_joined values (first_texts setting) revived (last_texts setting) in
    subst (λ l. OnOk c.push_columns.result (string_bytes c.push_columns.new.text ≡ string_bytes c.args.text.now ++ aligned (widths ++ figure_widths c.args.columns) l)) texts c.push_columns.ensures
