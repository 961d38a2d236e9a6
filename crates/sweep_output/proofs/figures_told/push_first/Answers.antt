use Rattle.std.proofs.Common.{◌∙◌, ◌++◌, ◌∷◌, [], ap, codes, decimal, map, string_bytes}
use Rattle.sweep_output.specs.Objects.{first_members, member}
use Rattle.sweep_output.proofs.Parts.{one_more, then_also}
use Rattle.sweep_output.proofs.figures_told.push_first.Goals as goal

pub returns : goal.returns
unfolding first_members
returns c =
    let old = map string_bytes c.args.members.now.items in
    then_also c.push_number-2.result _ _ c.push_number-2.ensures
    (λ is. one_more old _ _ _ _ is
    (one_more old _ _ _ _ c.in_ok-push_hundredths.ensures
    (one_more old _ _ _ _ c.in_ok-push_time-6.ensures
    (one_more old _ _ _ _ c.in_ok-push_time-5.ensures
    (one_more old _ _ _ _ c.in_ok-push_time-4.ensures
    (one_more old _ _ _ _ c.in_ok-push_time-3.ensures
    (one_more old _ _ _ _ c.in_ok-push_time-2.ensures
    (one_more old _ _ _ _ c.in_ok-push_time.ensures
    (c.in_ok-push_number.ensures ∙ ap (λ n. old ++ member (codes "runs") (decimal n) ∷ []) c.from.ensures)))))))))
