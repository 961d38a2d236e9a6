use Rattle.std.proofs.Common.{◌≡◌, ◌∙◌, ◌++◌, ap, map, string_bytes}
use Rattle.sweep_output.specs.Objects.{figure_members, first_members, last_members, some_members}
use Rattle.sweep_output.proofs.Parts.{then_also, three_joined}
use Rattle.sweep_output.proofs.figures_told.push_figures.Goals as goal

pub returns : goal.returns
unfolding figure_members
returns c =
    let setting = c.args.setting.now in
    let old = map string_bytes c.args.members.now.items in
    let some = some_members c.args.columns setting in
    then_also c.push_last.result _ _ c.push_last.ensures
    (λ is. is ∙ ap (λ l. l ++ last_members setting) (c.in_ok-push_some.ensures ∙ ap (λ l. l ++ some) c.in_ok-push_first.ensures)
    ∙ three_joined old (first_members setting) some (last_members setting))
