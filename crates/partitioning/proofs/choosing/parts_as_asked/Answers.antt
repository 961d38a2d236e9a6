use Rattle.std.proofs.Common.{arith}
use Rattle.std.proofs.lemmas.Result.{IfOk-weaker}
use Rattle.scenario.specs.Division.{Deal}
use Rattle.partitioning.proofs.Keeping.{kept_parts}
use Rattle.partitioning.proofs.choosing.parts_as_asked.Goals as goal

pub returns-then-long-ticks-clause-asked : goal.returns-then-long-ticks-clause-asked
returns-then-long-ticks-clause-asked c =
    IfOk-weaker c.same_parts.result _ _
    (λ (deal : Deal) is. kept_parts c.args.cluster.scenario.now c.args.division.now deal c.args.hands c.long_round-long.result c.in_ok-ticks.ticks c.parts-parts.result c.long_round-long.ensures c.in_ok-ticks.ensures c.parts-parts.ensures.value (omega (arith, c.if-long-ticks.true)) is)
    c.same_parts.ensures
