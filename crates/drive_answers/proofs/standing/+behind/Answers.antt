use Rattle.std.proofs.Common.{◌<◌, length, sym, subst, arith, rules}
use Rattle.json.specs.Tree.{json_tokens, items_tokens, members_tokens}
use Rattle.json.specs.Value.{value_view, items_view, members_view}
use Rattle.json.proofs.Trees.{item_smaller, member_smaller}
use Rattle.drive_answers.proofs.standing.+behind.Goals as goal

pub behind_items-behind-rest-requires : goal.behind_items-behind-rest-requires
behind_items-behind-rest-requires t c =
    let l = c.loop-item in
    let xs = c.deref-item-items.result.now in
    let x = c.item-item.result in
    let smaller : length (json_tokens (value_view x)) < length (items_tokens (items_view c.args.items.now.items)) =
    subst (λ ys. length (json_tokens (value_view x)) < length (items_tokens (items_view ys))) c.deref-item-items.ensures.value
    (subst (λ y. length (json_tokens (value_view y)) < length (items_tokens (items_view xs))) (sym c.item-item.is) (item_smaller xs l.item-index x (omega arith))) in
    search rules

pub behind_members-behind-rest-requires : goal.behind_members-behind-rest-requires
behind_members-behind-rest-requires t c =
    let l = c.loop-member in
    let xs = c.deref-member-items.result.now in
    let x = c.member-item.result in
    let smaller : length (json_tokens (value_view x.1)) < length (members_tokens (members_view c.args.members.now.items)) =
    subst (λ ys. length (json_tokens (value_view x.1)) < length (members_tokens (members_view ys))) c.deref-member-items.ensures.value
    (subst (λ y. length (json_tokens (value_view y.1)) < length (members_tokens (members_view xs))) (sym c.member-item.is) (member_smaller xs l.member-index x (omega arith))) in
    search rules
