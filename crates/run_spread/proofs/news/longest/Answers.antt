use Rattle.run_spread.specs.Spread.{last_of}
use Rattle.run_spread.proofs.Spreading.{greatest_more}
use Rattle.run_spread.proofs.news.longest.Goals as goal

pub loop-number-preserved : goal.loop-number-preserved
loop-number-preserved c = greatest_more (last_of c.args.run.now.scenario.now c.args.run.now.tallies.now) c.loop-number.number _ _ _ c.loop-number.invariant c.last_of.ensures c.max-longest.ensures
