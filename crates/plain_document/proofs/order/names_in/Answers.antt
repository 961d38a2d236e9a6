use Rattle.std.proofs.Common.{ap, sym, ◌∙◌}
use Rattle.plain_document.specs.Order.{words}
use Rattle.plain_document.proofs.Ordered.{keys_of-entries, once_at_end}
use Rattle.plain_document.proofs.order.names_in.Goals as goal

pub loop-key-init : goal.loop-key-init
loop-key-init c =
    rw c.new-made.ensures.items
    (ap words (c.into_iter-key-iterator.ensures.into_iter_gives ∙ c.keys-key-items.ensures.rest) ∙ sym (keys_of-entries c.args.table.now.entries))

pub returns-clause-once : goal.returns-clause-once
returns-clause-once c =
    once_at_end c.args.table.now.entries c.loop-key.made.items c.loop-key.key-iterator c.keys-key-items.ensures.ordered
    c.in-None.ensures.steps.0 c.loop-key.invariant
