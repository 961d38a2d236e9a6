use Rattle.std.proofs.Common.{arith}
use Rattle.series.specs.Watched.{crashes}
use Rattle.run_spread.proofs.Spreading.{count_more, count_few, one_bit}
use Rattle.run_spread.proofs.news.crashed.Goals as goal

pub overflow_add-crashed : goal.overflow_add-crashed
overflow_add-crashed c =
    omega (
      arith,
      c.loop-number.invariant,
      count_few (crashes c.args.run.now.scenario.now) c.loop-number.number,
      c.from-crashed.ensures,
      one_bit c.crashes.result,
    )

pub loop-number-preserved : goal.loop-number-preserved
loop-number-preserved c = count_more (crashes c.args.run.now.scenario.now) c.loop-number.number _ _ _ c.loop-number.invariant c.crashes.ensures c.from-crashed.ensures
