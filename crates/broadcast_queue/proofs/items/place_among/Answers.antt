use Rattle.std.proofs.Common.{rules}
use Rattle.std.proofs.lemmas.List.Sorted.{IsPartitionPoint-from_clause}
use Rattle.broadcast_queue.specs.Items.{goes_before}
use Rattle.broadcast_queue.proofs.Order.{partitioned, prefix_len_from_point}
use Rattle.broadcast_queue.proofs.items.place_among.Goals as goal

pub returns : goal.returns
returns c =
    let item = c.args.item.now in
    let clauses = c.partition_point.ensures in
    let sorted = partitioned item c.args.items.now c.requires in
    let point = IsPartitionPoint-from_clause (λ it. goes_before it item) c.args.items.now c.partition_point.result clauses.partitioned sorted (λ a r f k. search rules) in
    prefix_len_from_point _ _ _ clauses.bound point
