use Rattle.scenario.specs.Setup.{is_slow}
use Rattle.scenario.proofs.Noting.{entry_more, its_time}
use Rattle.links.proofs.spans.calendar_of_slows.Goals as goal

pub loop-slow-preserved : goal.loop-slow-preserved
loop-slow-preserved c =
    let slow = c.slow-item.result in
    let noted = c.mark.ensures in
    λ m t. entry_more (is_slow m t) c.args.slows.now c.loop-slow.slow-index slow c.loop-slow.calendar c.mark.new.self m t c.loop-slow-test.true c.slow-item.is
    (noted.kept m t) (c.loop-slow.invariant m t)
    (its_time c.mark.new.self c.index.result c.ticks.result c.ticks-in-loop-slow.result slow.member slow.from slow.until m t c.index.ensures c.ticks.ensures c.ticks-in-loop-slow.ensures noted.noted)
