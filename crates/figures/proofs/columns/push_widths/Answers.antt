use Rattle.std.proofs.Common.{◌++◌, ap, ◌∙◌}
use Rattle.figures.specs.SettingLines.{some_words, widths_of}
use Rattle.figures.proofs.Cells.{parts_joined, first_widths, last_widths, widths_told}
use Rattle.figures.proofs.columns.push_widths.Goals as goal

pub returns : goal.returns
returns c =
    let before = c.args.widths.now.items in
    let revived = widths_of (some_words c.args.columns) in
    c.in_ok-extend_from_slice-2.ensures.items ∙ ap (λ l. l ++ last_widths) (c.in_ok-push_some_widths.ensures ∙ ap (λ l. l ++ revived) c.in_ok-extend_from_slice.ensures.items)
    ∙ parts_joined before first_widths revived last_widths ∙ ap (λ l. before ++ l) (widths_told c.args.columns)
