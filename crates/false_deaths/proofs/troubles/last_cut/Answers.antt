use Rattle.false_deaths.specs.Troubles.{cuts_in}
use Rattle.false_deaths.proofs.Naming.{last_next}
use Rattle.false_deaths.proofs.troubles.last_cut.Goals as goal

pub loop-cut-preserved : goal.loop-cut-preserved
loop-cut-preserved c =
    last_next (cuts_in c.args.group c.args.first c.args.last) c.args.cuts.now c.loop-cut.cut-index _ _ _ _ c.loop-cut-test.true c.cut-item.is c.loop-cut.invariant c.later_cut-found.ensures
