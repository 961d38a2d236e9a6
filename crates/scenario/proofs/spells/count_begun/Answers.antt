use Rattle.std.proofs.Common.{leb, arith, rules}
use Rattle.std.proofs.lemmas.Bool.{leb-true, leb-false}
use Rattle.std.proofs.lemmas.List.Sorted.{IsPartitionPoint-from_clause, IsPartitionedBy-leb}
use Rattle.scenario.specs.declared.spells.Spell.{Spell}
use Rattle.scenario.proofs.Apart.{rising}
use Rattle.scenario.proofs.spells.count_begun.Goals as goal

pub returns-clause-begun : goal.returns-clause-begun
returns-clause-begun c =
    let xs = c.args.spells.now in
    let at = c.args.at in
    let clauses = c.partition_point.ensures in
    let parted = IsPartitionedBy-leb (λ (x : Spell). x.from) xs at (rising xs c.requires) in
    let point = IsPartitionPoint-from_clause (λ (x : Spell). leb x.from at) xs c.partition_point.result clauses.partitioned parted (λ a r f k. search rules) in
    λ i d low. leb-true _ at (point.0 i d (omega arith) low)

pub returns-clause-later : goal.returns-clause-later
returns-clause-later c =
    let xs = c.args.spells.now in
    let at = c.args.at in
    let clauses = c.partition_point.ensures in
    let parted = IsPartitionedBy-leb (λ (x : Spell). x.from) xs at (rising xs c.requires) in
    let point = IsPartitionPoint-from_clause (λ (x : Spell). leb x.from at) xs c.partition_point.result clauses.partitioned parted (λ a r f k. search rules) in
    λ i d high within. leb-false _ at (point.1 i d high within)
