use Rattle.scenario.specs.Setup.{is_in_pause}
use Rattle.scenario.proofs.Noting.{entry_more, its_time}
use Rattle.scenario.proofs.naps.calendar_of.Goals as goal

pub loop-pause-preserved : goal.loop-pause-preserved
loop-pause-preserved c =
    let pause = c.pause-item.result in
    let noted = c.mark.ensures in
    λ m t. entry_more (is_in_pause m t) c.args.pauses.now c.loop-pause.pause-index pause c.loop-pause.calendar c.mark.new.self m t c.loop-pause-test.true c.pause-item.is
    (noted.kept m t) (c.loop-pause.invariant m t)
    (its_time c.mark.new.self c.index.result c.ticks.result c.ticks-in-loop-pause.result pause.member pause.from pause.until m t c.index.ensures c.ticks.ensures c.ticks-in-loop-pause.ensures noted.noted)
