use Rattle.std.proofs.Common.{ap, is_some}
use Rattle.figures.proofs.MetadataWords.{if_ok_then}
use Rattle.shard_merge.proofs.Heads.{neither}
use Rattle.shard_merge.proofs.head.head_of_any.Goals as goal

pub returns-clause-none : goal.returns-clause-none
returns-clause-none c =
    let first = c.in_ok-head.ensures.none (ap is_some c.in_default.is) in
    let revived = c.in_ok-head-2.ensures.none (ap is_some c.in_default-2.is) in
    if_ok_then c.head_of-3.result _ _ c.head_of-3.ensures.none (λ found none is. neither c.args.text.now first revived (none is))
