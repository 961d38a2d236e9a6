use Rattle.std.proofs.Common.{ap, sym, ◌∙◌}
use Rattle.plain_document.specs.Order.{words}
use Rattle.plain_document.proofs.Ordered.{keys_of-entries}
use Rattle.expanded_text.proofs.order.keys_in.Goals as goal

pub loop-key-init : goal.loop-key-init
loop-key-init c =
    rw c.new-made.ensures.items
    (ap words (c.into_iter-key-iterator.ensures.into_iter_gives ∙ c.keys-key-items.ensures.rest) ∙ sym (keys_of-entries c.args.table.now.entries))
