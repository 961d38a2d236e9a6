use Rattle.scenario.proofs.Dealing.{greatest_more}
use Rattle.scenario.proofs.scenario.greatest_extra.Goals as goal

pub loop-slow-preserved : goal.loop-slow-preserved
loop-slow-preserved c =
    greatest_more c.args.member c.args.at c.args.slows.now c.loop-slow.slow-index c.slow-item.result c.loop-slow.greatest c.more_extra-greatest.result c.loop-slow-test.true c.slow-item.is c.loop-slow.invariant c.more_extra-greatest.ensures
