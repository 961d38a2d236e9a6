use Rattle.std.proofs.Common.{◌++◌, codes, map, ap, ◌∙◌, append_assoc}
use Rattle.std.specs.String.{string_bytes}
use Rattle.figures.specs.SettingLines.{cells_aligned, figure_widths}
use Rattle.figures.proofs.columns.push_columns.Goals as goal

pub returns : goal.returns
returns c =
    let before = string_bytes c.args.text.now in
    let widths = c.args.widths.now in
    let figures = figure_widths c.args.columns in
    let texts = map string_bytes c.args.texts.now in
    let all =
    c.deref.ensures.value ∙ c.in_ok-push_widths.ensures ∙ ap (λ l. l ++ figures) (c.in_ok-extend_from_slice.ensures.items ∙ ap (λ l. l ++ widths) c.new-all.ensures.items) in
    c.in_ok-push_str.ensures.bytes ∙ ap (λ l. l ++ codes "\n") (c.in_ok-push_cells.ensures ∙ ap (λ those. before ++ cells_aligned those texts) all)
    ∙ append_assoc before (cells_aligned (widths ++ figures) texts) (codes "\n")
