use Rattle.piggyback.proofs.Sending.{absent}
use Rattle.piggyback.proofs.Counting.{count_at, count_found, counted_absent}
use Rattle.piggyback.proofs.entries.count_one.Goals as goal

pub returns-clause-ordered : goal.returns-clause-ordered
returns-clause-ordered c =
    let there = rw c.deref.ensures.value at c.in-Some.ensures in
    (count_at c.args.subject c.args.entries.now.items _ c.in-Some.place c.index-entry.result.now _ c.requires there c.index-entry.ensures c.saturating_add.ensures c.replace_at.ensures).ordered

pub returns-clause-counted : goal.returns-clause-counted
returns-clause-counted c other =
    let there = rw c.deref.ensures.value at c.in-Some.ensures in
    count_found c.args.subject other c.args.entries.now.items _ c.in-Some.place c.index-entry.result.now c.requires there c.index-entry.ensures
    (count_at c.args.subject c.args.entries.now.items _ c.in-Some.place c.index-entry.result.now _ c.requires there c.index-entry.ensures c.saturating_add.ensures c.replace_at.ensures)

pub returns-in_default-clause-counted : goal.returns-in_default-clause-counted
returns-in_default-clause-counted c other =
    counted_absent c.args.subject other _ (absent c.args.subject _ (rw c.deref.ensures.value at c.in_default.ensures))
