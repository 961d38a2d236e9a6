use Rattle.std.proofs.Common.{◌≡◌}
use Rattle.shard_merge.specs.Joined.{JoinsShards}
use Rattle.shard_merge.proofs.joining.join_shards.Given as goal

-- the first shards are read and put, and the table has not failed
abbrev pub invariant-loop-number : goal.invariant-loop-number
invariant-loop-number g l = record {
  so : JoinsShards l.head.plan.until l.texts l.head.mark.now l.head.columns l.seed l.head.plan l.head.shard.of l.number (g.S.Sink.held l.fn.table) (g.S.Sink.held l.table) l.so_far;
  same : g.S.Sink.failed l.table ≡ g.S.Sink.failed l.fn.table;
}
