use Rattle.std.proofs.Common.{arith}
use Rattle.run_spread.specs.Spread.{stays}
use Rattle.run_spread.proofs.Spreading.{count_more, count_few, one_bit}
use Rattle.run_spread.proofs.news.staying.Goals as goal

pub overflow_add-staying : goal.overflow_add-staying
overflow_add-staying c =
    omega (
      arith,
      c.loop-number.invariant,
      count_few (stays c.args.run.now.scenario.now) c.loop-number.number,
      c.from-staying.ensures,
      one_bit c.stays.result,
    )

pub loop-number-preserved : goal.loop-number-preserved
loop-number-preserved c = count_more (stays c.args.run.now.scenario.now) c.loop-number.number _ _ _ c.loop-number.invariant c.stays.ensures c.from-staying.ensures

pub returns-clause-few : goal.returns-clause-few
returns-clause-few c = omega (arith, c.loop-number.invariant, count_few (stays c.args.run.now.scenario.now) c.loop-number.number)
