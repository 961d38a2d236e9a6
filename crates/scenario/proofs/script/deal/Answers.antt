use Rattle.scenario.proofs.Dealing.{dealt_more}
use Rattle.scenario.proofs.script.deal.Goals as goal

pub loop-event-preserved : goal.loop-event-preserved
loop-event-preserved c =
    dealt_more c.loop-event.scripts.items c.add.new.scripts.items c.args.events.now c.loop-event.event-index c.index.result c.event-item.result c.loop-event-test.true c.event-item.is c.index.ensures
    c.in_ok-add.ensures.here c.in_ok-add.ensures.others c.loop-event.invariant
