use Rattle.std.proofs.Common.{◌-◌, arith}
use Rattle.shards.proofs.Bounds.{share_within}
use Rattle.shards.proofs.shard.Shard.first.Goals as goal

pub returns-clause-within : goal.returns-clause-within
returns-clause-within c =
    let p = c.args.self in
    share_within (p.number - 1) p.of c.args.runs (omega (arith, c.requires.shard.most)) (omega (arith, c.requires.shard.least, c.requires.shard.most))
