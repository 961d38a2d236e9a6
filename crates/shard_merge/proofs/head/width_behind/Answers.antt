use Rattle.std.proofs.Common.{◌≤◌, length, rules}
use Rattle.shard_merge.proofs.Heads.{second_width}
use Rattle.shard_merge.proofs.Names.{if_some}
use Rattle.shard_merge.proofs.head.width_behind.Goals as goal

pub returns-clause-some : goal.returns-clause-some
returns-clause-some c =
    let long : 2 ≤ length c.args.listed.now = search rules in
    if_some c.width_in.result _ (λ value is. second_width c.args.listed.now _ value.now long (rw is at c.width_in.ensures.some))
