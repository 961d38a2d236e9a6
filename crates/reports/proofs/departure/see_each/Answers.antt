use Rattle.reports.proofs.Keeping.{seen_more, few_here}
use Rattle.reports.proofs.departure.see_each.Goals as goal

pub see-requires : goal.see-requires
see-requires c = few_here c.args.row.now c.args.departures.now _ _ c.departure-item.result c.loop-departure-test.true c.loop-departure.invariant c.requires

pub loop-departure-preserved : goal.loop-departure-preserved
loop-departure-preserved c = seen_more c.args.row.now c.args.departures.now _ _ c.departure-item.result _ c.loop-departure-test.true c.loop-departure.invariant c.departure-item.is c.see.ensures
