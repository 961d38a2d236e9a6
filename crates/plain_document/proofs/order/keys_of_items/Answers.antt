use Rattle.std.proofs.Common.{Vec, String, Global, List, ℕ}
use Rattle.toml.specs.View.{view}
use Rattle.plain_document.specs.Order.{words}
use Rattle.plain_document.proofs.Ordered.{next_item}
use Rattle.plain_document.proofs.order.keys_of_items.Goals as goal

abbrev keys_of : Vec (String Global) Global → List (List ℕ)
keys_of keys = words keys.items

pub loop-number-preserved : goal.loop-number-preserved
loop-number-preserved c =
    next_item view keys_of c.args.places.now c.args.list c.args.items.now c.loop-number.number c.index-items-number.result c.item_at-place.result c.loop-number.made.items
    c.push.new.self.items c.in_ok-keys.field-0 c.loop-number-test.true c.index-items-number.is c.item_at-place.ensures c.in_ok-push.ensures.items c.loop-number.invariant
    c.in_ok-keys.ensures
