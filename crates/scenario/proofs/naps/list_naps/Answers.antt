use Rattle.scenario.proofs.Napping.{nap_more, begun_more}
use Rattle.scenario.proofs.naps.list_naps.Goals as goal

pub loop-pause-preserved : goal.loop-pause-preserved
loop-pause-preserved c =
    let old = c.loop-pause.naps.items in
    let new = c.add.new.naps.items in
    let ps = c.args.pauses.now in
    record {
      same = nap_more old new ps c.loop-pause.pause-index c.index.result c.ticks-from.result c.ticks-until.result c.pause-item.result c.loop-pause-test.true c.pause-item.is c.index.ensures c.ticks-from.ensures c.ticks-until.ensures
          c.in_ok-add.ensures.here c.in_ok-add.ensures.others c.in_ok-add.ensures.begun c.loop-pause.invariant.same;
      begun = begun_more old new ps c.loop-pause.pause-index c.index.result c.ticks-from.result c.ticks-until.result c.pause-item.result c.loop-pause-test.true c.pause-item.is c.index.ensures c.ticks-from.ensures c.ticks-until.ensures
          c.in_ok-add.ensures.here c.in_ok-add.ensures.others c.in_ok-add.ensures.begun c.requires.rising c.loop-pause.invariant.begun;
    }
