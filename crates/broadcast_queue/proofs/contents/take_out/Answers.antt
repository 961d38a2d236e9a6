use Rattle.std.proofs.Common.{sym, ap, ◌∙◌}
use Rattle.std.specs.List.{remove}
use Rattle.broadcast_queue.proofs.Order.{finds, none_from, others_kept, removed, taken_there}
use Rattle.broadcast_queue.proofs.contents.take_out.Goals as goal

pub returns-then-not-has_key_at-clause-others : goal.returns-then-not-has_key_at-clause-others
returns-then-not-has_key_at-clause-others c =
    let items = c.args.items.now.items in
    let x = c.args.item.now in
    others_kept x items c.requires (finds x items _ c.has_key_at.result c.requires (rw c.deref.ensures.value at c.place_among-place.ensures) (rw c.deref-2.ensures.value at c.has_key_at.ensures) ∙ c.if-not-has_key_at.true)

pub returns-then-not-has_key_at-clause-taken : goal.returns-then-not-has_key_at-clause-taken
returns-then-not-has_key_at-clause-taken c =
    let items = c.args.items.now.items in
    let x = c.args.item.now in
    sym (none_from _ (finds x items _ c.has_key_at.result c.requires (rw c.deref.ensures.value at c.place_among-place.ensures) (rw c.deref-2.ensures.value at c.has_key_at.ensures) ∙ c.if-not-has_key_at.true))

pub returns-clause-others : goal.returns-clause-others
returns-clause-others c =
    let items = c.args.items.now.items in
    let x = c.args.item.now in
    let at = rw c.deref.ensures.value at c.place_among-place.ensures in
    c.remove.ensures.items ∙ ap (remove items) at
    ∙ removed x items c.requires (finds x items _ c.has_key_at.result c.requires at (rw c.deref-2.ensures.value at c.has_key_at.ensures) ∙ c.if-not-has_key_at.false)

pub returns-clause-taken : goal.returns-clause-taken
returns-clause-taken c =
    let items = c.args.items.now.items in
    let x = c.args.item.now in
    let at = rw c.deref.ensures.value at c.place_among-place.ensures in
    let there = finds x items _ c.has_key_at.result c.requires at (rw c.deref-2.ensures.value at c.has_key_at.ensures) ∙ c.if-not-has_key_at.false in
    taken_there x items _ _ c.requires at there c.remove.ensures.value
