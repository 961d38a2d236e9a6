use Rattle.std.proofs.Common.{◌≡◌, ◌+◌, ◌++◌, length, max, map, sym, ap, ◌∙◌, subst, length-append}
use Rattle.std.specs.Prelude.{OnOk}
use Rattle.std.specs.String.{string_bytes}
use Rattle.std.proofs.lemmas.List.{length-map}
use Rattle.figures.specs.SettingLines.{aligned, first_words, some_words, last_words, figure_words, figure_widths}
use Rattle.figures.proofs.Cells.{parts_joined}
use Rattle.figures.proofs.columns.push_setting_header.Goals as goal

pub push_columns-requires : goal.push_columns-requires
push_columns-requires c =
    let widths = c.args.widths.now in
    let keys = map (λ key. key.now) c.args.keys.now in
    let words = figure_words c.args.columns in
    let revived = some_words c.args.columns in
    let texts : map string_bytes c.deref.result.now ≡ keys ++ words =
    ap (map string_bytes) c.deref.ensures.value ∙ c.in_ok-push_texts-3.ensures ∙ ap (λ l. l ++ last_words) (c.in_ok-push_some_words.ensures ∙ ap (λ l. l ++ revived) (c.in_ok-push_texts-2.ensures ∙ ap (λ l. l ++ first_words) (c.in_ok-push_texts.ensures ∙ ap (λ l. map string_bytes l ++ keys) c.new-words.ensures.items)))
    ∙ parts_joined keys first_words revived last_words in
    sym (length-map c.deref.result.now string_bytes) ∙ ap length texts ∙ length-append keys words
    ∙ ap (λ n. n + length words) (length-map c.args.keys.now (λ key. key.now) ∙ sym c.requires) ∙ ap (λ n. length widths + n) (sym (length-map words (λ word. max 8 (length word))))

pub returns : goal.returns
returns c =
    let widths = c.args.widths.now in
    let keys = map (λ key. key.now) c.args.keys.now in
    let revived = some_words c.args.columns in
    let words : map string_bytes c.deref.result.now ≡ keys ++ figure_words c.args.columns =
    ap (map string_bytes) c.deref.ensures.value ∙ c.in_ok-push_texts-3.ensures ∙ ap (λ l. l ++ last_words) (c.in_ok-push_some_words.ensures ∙ ap (λ l. l ++ revived) (c.in_ok-push_texts-2.ensures ∙ ap (λ l. l ++ first_words) (c.in_ok-push_texts.ensures ∙ ap (λ l. map string_bytes l ++ keys) c.new-words.ensures.items)))
    ∙ parts_joined keys first_words revived last_words in
    subst (λ l. OnOk c.push_columns.result (string_bytes c.push_columns.new.text ≡ string_bytes c.args.text.now ++ aligned (widths ++ figure_widths c.args.columns) l)) words c.push_columns.ensures
