use Rattle.std.proofs.Common.{◌<◌, length, sym, subst, arith, rules}
use Rattle.json.specs.Tree.{json_tokens, items_tokens}
use Rattle.json.specs.Value.{value_view, items_view}
use Rattle.json.proofs.Trees.{item_smaller}
use Rattle.drive_answers.proofs.standing.+standing.Goals as goal

pub push_items-push_standing-requires : goal.push_items-push_standing-requires
push_items-push_standing-requires t c =
    let l = c.loop-item in
    let xs = c.deref-item-items.result.now in
    let x = c.item-item.result in
    let smaller : length (json_tokens (value_view x)) < length (items_tokens (items_view c.args.items.now.items)) =
    subst (λ ys. length (json_tokens (value_view x)) < length (items_tokens (items_view ys))) c.deref-item-items.ensures.value
    (subst (λ y. length (json_tokens (value_view y)) < length (items_tokens (items_view xs))) (sym c.item-item.is) (item_smaller xs l.item-index x (omega arith))) in
    search rules
