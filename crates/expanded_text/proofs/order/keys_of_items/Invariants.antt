use Rattle.std.proofs.Common.{◌≡◌, map, take}
use Rattle.toml.specs.View.{view}
use Rattle.schema.specs.Tree.{keys_of}
use Rattle.plain_document.specs.Order.{words}
use Rattle.expanded_text.proofs.order.keys_of_items.Given as goal

-- those of the items so far
abbrev pub invariant-loop-item : goal.invariant-loop-item
invariant-loop-item l = map (λ keys. words keys.items) l.made.items ≡ map keys_of (map view (take l.item-index l.items))
