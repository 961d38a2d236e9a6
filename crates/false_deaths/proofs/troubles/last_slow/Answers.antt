use Rattle.false_deaths.specs.Troubles.{slows_in}
use Rattle.false_deaths.proofs.Naming.{last_next}
use Rattle.false_deaths.proofs.troubles.last_slow.Goals as goal

pub loop-slow-preserved : goal.loop-slow-preserved
loop-slow-preserved c =
    last_next (slows_in c.args.member c.args.first c.args.last) c.args.slows.now c.loop-slow.slow-index _ _ _ _ c.loop-slow-test.true c.slow-item.is c.loop-slow.invariant c.later_slow-found.ensures
