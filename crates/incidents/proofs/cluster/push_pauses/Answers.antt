use Rattle.incidents.proofs.Clusters.{mapped_more}
use Rattle.incidents.specs.Cluster.{pause_trouble}
use Rattle.incidents.proofs.cluster.push_pauses.Goals as goal

pub loop-pause-preserved : goal.loop-pause-preserved
loop-pause-preserved c =
    mapped_more pause_trouble c.args.pauses.now _ c.loop-pause.troubles.items _ c.loop-pause.pause-index c.pause-item.result c.loop-pause-test.true c.loop-pause.invariant c.pause-item.is c.in_ok-push.ensures.items
