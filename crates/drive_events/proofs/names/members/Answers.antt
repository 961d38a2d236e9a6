use Rattle.std.proofs.Common.{◌<◌, sym, ap, ◌∙◌, ◌++◌, ◌∷◌, [], arith}
use Rattle.scenario.specs.Setup.{member_count}
use Rattle.drive_events.proofs.Lists.{numbers_more, all_more}
use Rattle.drive_events.proofs.names.members.Goals as goal

pub loop-number-preserved : goal.loop-number-preserved
loop-number-preserved c =
    let m = c.loop-number.number in
    record {
      all = c.in_ok-push.ensures.items ∙ ap (λ xs. xs ++ m ∷ []) c.loop-number.invariant.all ∙ sym (numbers_more m);
      within = all_more (λ n. n < member_count c.args.scenario.now) _ _ m c.in_ok-push.ensures.items c.loop-number.invariant.within (omega (arith, c.loop-number-test.true, c.members-number-end.ensures.count));
    }
