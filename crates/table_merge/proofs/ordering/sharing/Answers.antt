use Rattle.std.proofs.Common.{arith, subst}
use Rattle.std.specs.Prelude.{All}
use Rattle.std.proofs.lemmas.List.{take_all}
use Rattle.table_merge.specs.Found.{ShareSeed}
use Rattle.table_merge.specs.declared.finding.Found.{Found}
use Rattle.table_merge.proofs.Order.{all_next}
use Rattle.table_merge.proofs.ordering.sharing.Goals as goal

pub loop-found-preserved : goal.loop-found-preserved
loop-found-preserved c =
    all_next (λ (f : Found). ¬ (ShareSeed f.seeds c.args.seeds)) c.args.tables.now c.loop-found.found-index _ (omega (arith, c.loop-found-test.true)) c.loop-found.invariant (c.share.ensures.none c.if-share.false)

pub returns-clause-none : goal.returns-clause-none
returns-clause-none c _ =
    subst (All (λ (f : Found). ¬ (ShareSeed f.seeds c.args.seeds))) (take_all c.loop-found.found-index c.args.tables.now (omega (arith, c.loop-found-test.false))) c.loop-found.invariant
