use Rattle.table_merge.proofs.FoundMore.{begins_if, other_if}
use Rattle.table_merge.proofs.finding.begins_with.Goals as goal

pub returns-clause-begins : goal.returns-clause-begins
returns-clause-begins c =
    let first = c.args.first.now in
    let some = rw c.in-Some.is at c.in_ok-head.ensures.some in
    let asked = rw c.in-Some.is at c.in_ok-head.ensures.asked in
    begins_if c.args.text.now first.head.mark.now c.in-Some.head.mark.now first.head.columns c.in-Some.head.columns first.head.plan c.in-Some.head.plan c.in-Some.head.shard c.args.seeds c.requires.marked
    asked some.0 some.1 some.2 some.3 c.begins_as.result c.begins_as.ensures.begins

pub returns-clause-other : goal.returns-clause-other
returns-clause-other c =
    let first = c.args.first.now in
    let some = rw c.in-Some.is at c.in_ok-head.ensures.some in
    other_if c.args.text.now first.head.mark.now c.in-Some.head.mark.now first.head.columns c.in-Some.head.columns first.head.plan c.in-Some.head.plan c.in-Some.head.shard c.args.seeds
    some.0 some.1 some.2 some.3 c.begins_as.result c.begins_as.ensures.other
