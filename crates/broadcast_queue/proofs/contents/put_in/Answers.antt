use Rattle.std.proofs.Common.{set, sym, ap, ◌∙◌, arith}
use Rattle.std.specs.List.{insert}
use Rattle.std.proofs.lemmas.List.Sums.{prefix_len-le-length}
use Rattle.broadcast_queue.specs.Items.{goes_before}
use Rattle.broadcast_queue.proofs.Order.{finds, insert_there, inserted, none_from, set_there, taken_there}
use Rattle.broadcast_queue.proofs.contents.put_in.Goals as goal

pub returns-then-has_key_at-clause-placed : goal.returns-then-has_key_at-clause-placed
returns-then-has_key_at-clause-placed c =
    let items = c.args.items.now.items in
    let x = c.args.item in
    let at = rw c.deref.ensures.value at c.place_among-place.ensures in
    ap (λ n. set items n x) at
    ∙ set_there x items c.requires.ordered (finds x items _ c.has_key_at.result c.requires.ordered at (rw c.deref-2.ensures.value at c.has_key_at.ensures) ∙ c.if-has_key_at.true)

pub returns-then-has_key_at-clause-lost : goal.returns-then-has_key_at-clause-lost
returns-then-has_key_at-clause-lost c =
    let items = c.args.items.now.items in
    let x = c.args.item in
    let at = rw c.deref.ensures.value at c.place_among-place.ensures in
    let there = finds x items _ c.has_key_at.result c.requires.ordered at (rw c.deref-2.ensures.value at c.has_key_at.ensures) ∙ c.if-has_key_at.true in
    taken_there x items _ _ c.requires.ordered at there c.index-lost.ensures

pub insert-requires : goal.insert-requires
insert-requires c =
    let items = c.args.items.now.items in
    let at = rw c.deref.ensures.value at c.place_among-place.ensures in
    omega (arith, at, c.deref.ensures.len, prefix_len-le-length (λ it. goes_before it c.args.item) items)

pub returns-clause-placed : goal.returns-clause-placed
returns-clause-placed c =
    let items = c.args.items.now.items in
    let x = c.args.item in
    let at = rw c.deref.ensures.value at c.place_among-place.ensures in
    let none = finds x items _ c.has_key_at.result c.requires.ordered at (rw c.deref-2.ensures.value at c.has_key_at.ensures) ∙ c.if-has_key_at.false in
    inserted c.insert.result items _ _ x c.insert.ensures.items (c.insert.ensures.succeeds c.requires.room) ∙ ap (λ n. insert items n x) at ∙ insert_there x items c.requires.ordered none

pub returns-clause-lost : goal.returns-clause-lost
returns-clause-lost c =
    let items = c.args.items.now.items in
    let x = c.args.item in
    let at = rw c.deref.ensures.value at c.place_among-place.ensures in
    sym (none_from _ (finds x items _ c.has_key_at.result c.requires.ordered at (rw c.deref-2.ensures.value at c.has_key_at.ensures) ∙ c.if-has_key_at.false))
