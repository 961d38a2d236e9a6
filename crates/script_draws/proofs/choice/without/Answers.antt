use Rattle.script_draws.proofs.ChoiceLemmas.{one_kept}
use Rattle.script_draws.proofs.choice.without.Goals as goal

pub loop-member-preserved : goal.loop-member-preserved
loop-member-preserved c =
    one_kept c.args.left.now c.args.members.now c.loop-member.chosen.items c.add_unless_left.new.chosen.items c.loop-member.member-index c.member-item.result
    c.loop-member-test.true c.member-item.is c.loop-member.invariant c.in_ok-add_unless_left.ensures
