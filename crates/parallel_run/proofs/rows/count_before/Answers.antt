use Rattle.std.proofs.Common.{◌<◌, ◌≤◌, ltb, rules, arith}
use Rattle.std.proofs.lemmas.Bool.{ltb-true, ltb-false}
use Rattle.std.proofs.lemmas.List.Sorted.{IsPartitionPoint-from_clause, IsPartitionedBy-ltb}
use Rattle.trace.specs.declared.row.Row.{Row}
use Rattle.parallel_run.proofs.RowsCut.{front_of, back_of, rise_by_place}
use Rattle.parallel_run.proofs.rows.count_before.Goals as goal

pub returns-clause-before : goal.returns-clause-before
returns-clause-before c =
    let rows = c.args.rows.now in
    let until = c.args.until in
    let clauses = c.partition_point.ensures in
    let parted = IsPartitionedBy-ltb (λ (row : Row). row.at) rows until (rise_by_place rows c.requires.rising) in
    let point = IsPartitionPoint-from_clause (λ (row : Row). ltb row.at until) rows c.partition_point.result clauses.partitioned parted (λ a r f k. search rules) in
    front_of (λ row. row.at < until) rows c.partition_point.result clauses.bound (λ k d low. ltb-true _ until (point.0 k d (omega arith) low))

pub returns-clause-later : goal.returns-clause-later
returns-clause-later c =
    let rows = c.args.rows.now in
    let until = c.args.until in
    let clauses = c.partition_point.ensures in
    let parted = IsPartitionedBy-ltb (λ (row : Row). row.at) rows until (rise_by_place rows c.requires.rising) in
    let point = IsPartitionPoint-from_clause (λ (row : Row). ltb row.at until) rows c.partition_point.result clauses.partitioned parted (λ a r f k. search rules) in
    back_of (λ row. until ≤ row.at) rows c.partition_point.result (λ k d from low. ltb-false _ until (point.1 k d from low))
