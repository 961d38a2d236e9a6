use Rattle.shard_merge.proofs.Heads.{width_parts}
use Rattle.shard_merge.proofs.head.width_in.Goals as goal

pub returns-in_default-clause-none : goal.returns-in_default-clause-none
returns-in_default-clause-none c _ value is = rw c.in_default.is at (width_parts c.args.word.now value c.split_once.result is c.split_once.ensures.cases)
