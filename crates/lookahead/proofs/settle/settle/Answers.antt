use Rattle.lookahead.proofs.settle.settle.Goals as goal

pub loop-preserved : goal.loop-preserved
loop-preserved c = λ s division between are. c.shorten_each.ensures.walks s division between (c.loop.invariant s division between are)

pub returns-clause-walks : goal.returns-clause-walks
returns-clause-walks c = λ s division between are. c.shorten_each.ensures.walks s division between (c.loop.invariant s division between are)
