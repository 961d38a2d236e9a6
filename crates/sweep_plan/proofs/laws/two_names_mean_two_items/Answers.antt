use Rattle.std.proofs.Common.{◌≡◌, [], get_or, map, take, ◌∙◌, sym, arith}
use Rattle.std.specs.List.{take-map}
use Rattle.std.proofs.lemmas.List.{get_or-map, length-map}
use Rattle.sweep_plan.specs.Items.{name_of_item}
use Rattle.sweep_plan.specs.Meant.{is_meant}
use Rattle.sweep_plan.proofs.TwoNames.{marks_at, two_items}
use Rattle.sweep_plan.proofs.laws.two_names_mean_two_items.Goals as goal

pub returns-clause-meant : goal.returns-clause-meant
returns-clause-meant c items text place d inside =
    let long = length-map items name_of_item in
    let first : map name_of_item (take place items) ≡ take place (map name_of_item items) = sym (take-map name_of_item place items) in
    let own : get_or (map name_of_item items) place [] ≡ name_of_item (get_or items place d) = get_or-map name_of_item items place d [] inside in
    marks_at text [] (map name_of_item items) place [] (omega (arith, long, inside)) ∙ (λ k. is_meant text (sym first k) (own k))

pub returns-clause-apart : goal.returns-clause-apart
returns-clause-apart c items a b place one_a one_b apart not_first nor_first meant = two_items (map name_of_item items) a b place one_a one_b apart not_first nor_first meant
