use Rattle.std.proofs.Common.{ltb, take, ap, ◌∙◌, rules}
use Rattle.std.proofs.lemmas.List.Sorted.{IsPartitionPoint-from_clause, IsPartitionedBy-ltb}
use Rattle.piggyback.proofs.Sending.{order_is, counts_rise, first_below, prefix_len_from_point}
use Rattle.piggyback.proofs.entries.drop_sent.Goals as goal

pub returns : goal.returns
returns c =
    let these = c.args.entries.now.items in
    let inside = order_is these c.requires in
    let clauses = c.partition_point-left.ensures in
    let parted = IsPartitionedBy-ltb (λ it. it.1) these c.args.limit (counts_rise these inside) in
    let clause = rw c.deref.ensures.value at clauses.partitioned in
    let point = IsPartitionPoint-from_clause (λ it. ltb it.1 c.args.limit) these c.partition_point-left.result clause parted (λ a r f k. search rules) in
    c.truncate.ensures.items
    ∙ ap (λ n. take n these) (prefix_len_from_point _ these _ (rw c.deref.ensures.value at clauses.bound) point)
    ∙ first_below c.args.limit these inside
