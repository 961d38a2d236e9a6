use Rattle.std.proofs.Common.{leb, arith, rules}
use Rattle.std.proofs.lemmas.Bool.{leb-true, leb-false}
use Rattle.std.proofs.lemmas.List.Sorted.{IsPartitionPoint-from_clause, IsPartitionedBy-leb}
use Rattle.links.specs.declared.spans.times.SlowSpan.{SlowSpan}
use Rattle.links.proofs.SlowOnes.{rising}
use Rattle.links.proofs.spans.times.count_begun.Goals as goal

pub returns-clause-begun : goal.returns-clause-begun
returns-clause-begun c =
    let xs = c.args.times.now in
    let at = c.args.at in
    let clauses = c.partition_point.ensures in
    let parted = IsPartitionedBy-leb (λ (x : SlowSpan). x.from) xs at (rising xs c.requires) in
    let point = IsPartitionPoint-from_clause (λ (x : SlowSpan). leb x.from at) xs c.partition_point.result clauses.partitioned parted (λ a r f k. search rules) in
    λ i d low. leb-true _ at (point.0 i d (omega arith) low)

pub returns-clause-later : goal.returns-clause-later
returns-clause-later c =
    let xs = c.args.times.now in
    let at = c.args.at in
    let clauses = c.partition_point.ensures in
    let parted = IsPartitionedBy-leb (λ (x : SlowSpan). x.from) xs at (rising xs c.requires) in
    let point = IsPartitionPoint-from_clause (λ (x : SlowSpan). leb x.from at) xs c.partition_point.result clauses.partitioned parted (λ a r f k. search rules) in
    λ i d high within. leb-false _ at (point.1 i d high within)
