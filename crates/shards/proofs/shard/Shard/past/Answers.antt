use Rattle.std.proofs.Common.{◌-◌, arith}
use Rattle.shards.proofs.Bounds.{share_within, share_grows}
use Rattle.shards.proofs.shard.Shard.past.Goals as goal

pub returns-clause-within : goal.returns-clause-within
returns-clause-within c =
    let p = c.args.self in
    share_within p.number p.of c.args.runs c.requires.shard.most (omega (arith, c.requires.shard.least, c.requires.shard.most))

pub returns-clause-ordered : goal.returns-clause-ordered
returns-clause-ordered c =
    let p = c.args.self in
    share_grows (p.number - 1) p.number p.of c.args.runs (omega arith) (omega (arith, c.requires.shard.least, c.requires.shard.most))
