use Rattle.std.proofs.Common.{ap, is_some, sym}
use Rattle.shards.specs.declared.shard.Shard.{Shard}
use Rattle.shard_merge.proofs.Heads.{same_shard}
use Rattle.shard_merge.proofs.head.number_of.Goals as goal

pub returns-in_default-read-clause-none : goal.returns-in_default-read-clause-none
returns-in_default-read-clause-none c _ mark columns sweep p b =
    c.read.ensures.none (ap is_some c.in_default-read.is) p (record { written = sym (c.in-Some.ensures.some mark columns sweep p b).0; sound = b.sound })

pub returns-clause-only : goal.returns-clause-only
returns-clause-only c mark columns sweep p b =
    let same = same_shard c.in-Some.word.now _ p c.in-Some-read.ensures.some (c.in-Some.ensures.some mark columns sweep p b).0 b.sound in
    sym (ap (λ (q : Shard). q.number) same)
