use Rattle.std.proofs.Common.{◌≡◌, Some, Option, true, sym, ap, subst, ◌∙◌, arith, get_or}
use Rattle.std.specs.Option.{option_or}
use Rattle.std.specs.List.{find, position}
use Rattle.std.proofs.lemmas.List.Quantifiers.{position-Some}
use Rattle.broadcast_queue.specs.declared.items.Item.{Item}
use Rattle.broadcast_queue.specs.Items.{has_key_of, is_about}
use Rattle.broadcast_queue.specs.Broadcasts.{without_pointed}
use Rattle.broadcast_queue.specs.Contents.{held, queue_of}
use Rattle.broadcast_queue.proofs.Order.{nobody, own_key_at}
use Rattle.broadcast_queue.proofs.Pointers.{found_at_place, none_at_place, none_counted, one_of, points}
use Rattle.broadcast_queue.proofs.Steps.{get_or_any}
use Rattle.broadcast_queue.proofs.contents.Contents.delete_pointed.Goals as goal

pub delete_item-requires-clause-there : goal.delete_item-requires-clause-there
delete_item-requires-clause-there c =
    let items = c.args.self.now.items.items in
    let x = c.index.result.now in
    let is : Some c.in-Some.place ≡ position (is_about c.args.subject) items = rw c.deref.ensures.value at c.in-Some.ensures in
    subst (λ (it : Item). find (has_key_of it) items ≡ Some it) (sym c.index.ensures) (own_key_at items c.in-Some.place x c.requires.sound.ordered (position-Some (is_about c.args.subject) items c.in-Some.place x (sym is)).0)

pub returns-in-Some-clause-deleted : goal.returns-in-Some-clause-deleted
unfolding queue_of
returns-in-Some-clause-deleted c =
    let self = c.args.self.now in
    let x = c.index.result.now in
    let is : Some c.in-Some.place ≡ position (is_about c.args.subject) self.items.items = rw c.deref.ensures.value at c.in-Some.ensures in
    let found = found_at_place (is_about c.args.subject) self.items.items c.in-Some.place x is ∙ ap Some (sym c.index.ensures) in
    c.delete_item.ensures.deleted
    ∙ ap (λ (o : Option Item). without_pointed true o (held self))
    (sym (points c.args.subject self.items.items self.lost.items ∙ ap (λ (o : Option Item). option_or o (find (is_about c.args.subject) self.lost.items)) found))

pub returns-in-Some-clause-gone : goal.returns-in-Some-clause-gone
returns-in-Some-clause-gone c =
    let items = c.args.self.now.items.items in
    let x = c.index.result.now in
    let is : Some c.in-Some.place ≡ position (is_about c.args.subject) items = rw c.deref.ensures.value at c.in-Some.ensures in
    let own = ap (is_about c.args.subject) c.index.ensures ∙ (position-Some (is_about c.args.subject) items c.in-Some.place x (sym is)).1 in
    omega (arith, c.delete_item.ensures.counted c.args.subject, c.requires.sound.distinct c.args.subject, one_of _ own)

pub returns-in-Some-place_of_subject-clause-deleted : goal.returns-in-Some-place_of_subject-clause-deleted
unfolding queue_of
returns-in-Some-place_of_subject-clause-deleted c =
    let self = c.args.self.now in
    let about = is_about c.args.subject in
    let place = c.in-Some-place_of_subject.place in
    let is : Some place ≡ position about self.lost.items = rw c.deref-2.ensures.value at c.in-Some-place_of_subject.ensures in
    let none = none_at_place about self.items.items (rw c.deref.ensures.value at (sym c.in_default.is ∙ c.place_of_subject.ensures)) in
    let x = get_or self.lost.items place (nobody 0) in
    let there = (position-Some about self.lost.items place x (sym is)).0 in
    c.delete_lost.ensures.deleted x (get_or_any self.lost.items place (nobody 0) x there)
    ∙ ap (λ (o : Option Item). without_pointed true o (held self))
    (sym (points c.args.subject self.items.items self.lost.items ∙ ap (λ (o : Option Item). option_or o (find about self.lost.items)) none ∙ found_at_place about self.lost.items place (nobody 0) is))

pub returns-in-Some-place_of_subject-clause-gone : goal.returns-in-Some-place_of_subject-clause-gone
returns-in-Some-place_of_subject-clause-gone c =
    let self = c.args.self.now in
    let about = is_about c.args.subject in
    let place = c.in-Some-place_of_subject.place in
    let is : Some place ≡ position about self.lost.items = rw c.deref-2.ensures.value at c.in-Some-place_of_subject.ensures in
    let x = get_or self.lost.items place (nobody 0) in
    let at = position-Some about self.lost.items place (nobody 0) (sym is) in
    omega (arith, c.delete_lost.ensures.counted x (get_or_any self.lost.items place (nobody 0) x at.0) c.args.subject, c.requires.sound.distinct c.args.subject, one_of _ at.1)

pub returns-in_default-place_of_subject-clause-deleted : goal.returns-in_default-place_of_subject-clause-deleted
unfolding queue_of
returns-in_default-place_of_subject-clause-deleted c =
    let self = c.args.self.now in
    ap (λ (o : Option Item). without_pointed true o (held self))
    (sym (points c.args.subject self.items.items self.lost.items
    ∙ ap (λ (o : Option Item). option_or o (find (is_about c.args.subject) self.lost.items)) (none_at_place (is_about c.args.subject) self.items.items (rw c.deref.ensures.value at (sym c.in_default.is ∙ c.place_of_subject.ensures)))
    ∙ none_at_place (is_about c.args.subject) self.lost.items (rw c.deref-2.ensures.value at (sym c.in_default-place_of_subject.is ∙ c.place_of_subject-2.ensures))))

pub returns-in_default-place_of_subject-clause-gone : goal.returns-in_default-place_of_subject-clause-gone
returns-in_default-place_of_subject-clause-gone c =
    let self = c.args.self.now in
    none_counted (is_about c.args.subject) self.items.items self.lost.items
    (none_at_place (is_about c.args.subject) self.items.items (rw c.deref.ensures.value at (sym c.in_default.is ∙ c.place_of_subject.ensures)))
    (none_at_place (is_about c.args.subject) self.lost.items (rw c.deref-2.ensures.value at (sym c.in_default-place_of_subject.is ∙ c.place_of_subject-2.ensures)))
