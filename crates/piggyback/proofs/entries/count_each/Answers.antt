use Rattle.std.proofs.Common.{sym, ap, ◌∙◌, arith}
use Rattle.piggyback.specs.Keyed.{found_of, is_in_order}
use Rattle.piggyback.proofs.Merging.{begins_within, front_in_order, rest_in_order, merged_in_order, merged_counted}
use Rattle.piggyback.proofs.entries.count_each.Goals as goal

pub count_front-requires-clause-within : goal.count_front-requires-clause-within
count_front-requires-clause-within c = omega (arith, begins_within c.args.updates.now c.deref.result.now (sym c.if-begin_with.ensures), c.deref.ensures.len)

pub count_front-requires-clause-ordered : goal.count_front-requires-clause-ordered
count_front-requires-clause-ordered c =
    front_in_order c.args.updates.now c.args.entries.now.items c.requires.ordered (sym (rw c.deref.ensures.value at c.if-begin_with.ensures))

pub count_front-requires-clause-others : goal.count_front-requires-clause-others
count_front-requires-clause-others c = rest_in_order c.args.updates.now c.args.entries.now.items c.requires.ordered (sym (rw c.deref.ensures.value at c.if-begin_with.ensures))

pub returns-then-count_front-clause-ordered : goal.returns-then-count_front-clause-ordered
returns-then-count_front-clause-ordered c =
    ap is_in_order c.if-count_front.ensures.went
    ∙ merged_in_order c.args.updates.now c.args.entries.now.items c.requires.ordered (sym (rw c.deref.ensures.value at c.if-begin_with.ensures))

pub returns-then-count_front-clause-counted : goal.returns-then-count_front-clause-counted
returns-then-count_front-clause-counted c subject =
    ap (found_of subject) c.if-count_front.ensures.went
    ∙ merged_counted c.args.updates.now c.args.entries.now.items c.requires.ordered (sym (rw c.deref.ensures.value at c.if-begin_with.ensures)) subject
