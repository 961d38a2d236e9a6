use Rattle.std.proofs.Common.{◌≡◌, ◌∙◌, ◌++◌, ◌∷◌, [], ap, codes, map, string_bytes}
use Rattle.goals.specs.Front.{is_on_front}
use Rattle.sweep_output.specs.Objects.{choice_member, figure_members, member, truth, wanted_members}
use Rattle.sweep_output.proofs.Parts.{one_between}
use Rattle.sweep_output.proofs.objects.members_of.Goals as goal

pub returns : goal.returns
returns c =
    let setting = c.args.setting.now in
    let choices = map choice_member c.args.chosen.now in
    let figures = figure_members c.args.columns setting in
    let wanted = wanted_members c.args.wants.now c.args.is_best setting in
    let front = member (codes "front") (truth (is_on_front setting c.args.all.now)) in
    c.in_ok-push_wanted.ensures
    ∙ ap (λ l. l ++ wanted) (c.in_ok-push_truth.ensures ∙ ap (λ b. map string_bytes c.push_figures.new.members.items ++ member (codes "front") (truth b) ∷ []) c.is_on_front.ensures
    ∙ ap (λ l. l ++ front ∷ []) (c.in_ok-push_figures.ensures ∙ ap (λ l. l ++ figures) (c.in_ok-push_choices.ensures ∙ ap (λ l. map string_bytes l ++ choices) c.new-members.ensures.items)))
    ∙ one_between choices figures wanted front
