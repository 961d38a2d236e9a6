use Rattle.run_page.specs.Traffic.{cells}
use Rattle.run_page.proofs.Stacking.{item_more}
use Rattle.run_page.proofs.traffic.push_cells.Goals as goal

pub loop-kind-preserved : goal.loop-kind-preserved
loop-kind-preserved c =
    item_more (cells c.args.run.now.scenario.now c.args.run.now.tallies.now c.args.span) c.args.kinds.now c.loop-kind.kind-index _ _ _ _ c.loop-kind-test.true c.loop-kind.invariant
    c.in_ok-push_cell.ensures
