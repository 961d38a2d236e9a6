use Rattle.reports.proofs.AwayLoops.{seen_more, few_here}
use Rattle.reports.proofs.absence.see_each.Goals as goal

pub see-requires : goal.see-requires
see-requires c = few_here c.args.row.now c.args.absences.now _ _ c.absence-item.result c.loop-absence-test.true c.loop-absence.invariant c.requires

pub loop-absence-preserved : goal.loop-absence-preserved
loop-absence-preserved c = seen_more c.args.row.now c.args.absences.now _ _ c.absence-item.result _ c.loop-absence-test.true c.loop-absence.invariant c.absence-item.is c.see.ensures
