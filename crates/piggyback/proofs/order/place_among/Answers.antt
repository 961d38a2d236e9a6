use Rattle.std.proofs.Common.{not, rules}
use Rattle.std.proofs.lemmas.List.Sorted.{IsPartitionPoint-from_clause}
use Rattle.piggyback.specs.Picked.{goes_before}
use Rattle.piggyback.proofs.Sending.{order_is, partitioned, prefix_len_from_point}
use Rattle.piggyback.proofs.order.place_among.Goals as goal

pub returns : goal.returns
returns c =
    let entry = c.args.entry.now in
    let clauses = c.partition_point.ensures in
    let sorted = partitioned entry c.args.entries.now (order_is _ c.requires) in
    let point = IsPartitionPoint-from_clause (λ it. not (goes_before entry it)) c.args.entries.now c.partition_point.result clauses.partitioned sorted (λ a r f k. search rules) in
    prefix_len_from_point _ _ _ clauses.bound point
