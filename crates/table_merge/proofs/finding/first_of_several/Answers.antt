use Rattle.std.proofs.Common.{ap, is_some}
use Rattle.table_merge.proofs.FoundMore.{none_several}
use Rattle.table_merge.proofs.finding.first_of_several.Goals as goal

pub returns-clause-none : goal.returns-clause-none
returns-clause-none c _ =
    let head = c.in_ok-head.head in
    none_several c.args.texts.now head.mark.now head.columns head.plan head.shard c.in_ok-head.ensures.first (c.seeds_of.ensures.none (ap is_some c.in-None.is))
