use Rattle.std.proofs.Common.{◌∙◌, arith}
use Rattle.incidents.proofs.Clusters.{founders_more, few_founders}
use Rattle.incidents.proofs.cluster.founders_of.Goals as goal

pub loop-place-preserved : goal.loop-place-preserved
loop-place-preserved c = founders_more c.args.scenario.now _ _ _ _ c.loop-place.invariant (c.ticks.ensures ∙ c.start-start.ensures.value) c.in_ok-push.ensures.items

pub returns-clause-few : goal.returns-clause-few
returns-clause-few c = few_founders c.args.scenario.now c.loop-place.founders.items _ c.loop-place.invariant (omega arith)
