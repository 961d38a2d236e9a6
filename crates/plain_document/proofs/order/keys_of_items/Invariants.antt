use Rattle.std.proofs.Common.{map, take}
use Rattle.toml.specs.View.{view}
use Rattle.plain_document.specs.Order.{words, AreItemsOrdered}
use Rattle.plain_document.proofs.order.keys_of_items.Given as goal

-- those of the items so far
abbrev pub invariant-loop-number : goal.invariant-loop-number
invariant-loop-number l = AreItemsOrdered l.places l.list 0 (map view (take l.number l.items)) (map (λ keys. words keys.items) l.made.items)
