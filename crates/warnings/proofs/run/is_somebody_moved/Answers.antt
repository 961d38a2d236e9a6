use Rattle.std.proofs.Common.{◌||◌, ap, sym, ◌∙◌}
use Rattle.std.specs.List.{list_any, range_with_len}
use Rattle.warnings.specs.Conditions.{is_moved}
use Rattle.warnings.proofs.Any.{any_more}
use Rattle.warnings.proofs.run.is_somebody_moved.Goals as goal

pub loop-member-preserved : goal.loop-member-preserved
loop-member-preserved c =
    let test = is_moved c.args.scenario.now in
    let member = c.loop-member.member in
    c.is_either-moved.ensures
    ∙ ap (λ b. b || c.is_moved.result) c.loop-member.invariant
    ∙ ap (λ b. list_any test (range_with_len 0 member) || b) c.is_moved.ensures
    ∙ sym (any_more test member)
