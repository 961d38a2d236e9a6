use Rattle.false_deaths.specs.Troubles.{pauses_in}
use Rattle.false_deaths.proofs.Naming.{last_next}
use Rattle.false_deaths.proofs.troubles.last_pause.Goals as goal

pub loop-pause-preserved : goal.loop-pause-preserved
loop-pause-preserved c =
    last_next (pauses_in c.args.member c.args.first c.args.last) c.args.pauses.now c.loop-pause.pause-index _ _ _ _ c.loop-pause-test.true c.pause-item.is c.loop-pause.invariant c.later_pause-found.ensures
