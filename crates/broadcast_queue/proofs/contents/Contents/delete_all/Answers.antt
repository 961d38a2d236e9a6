use Rattle.std.proofs.Common.{◌+◌, ◌-◌, true, List, drop, sym, ap, ◌∙◌, arith, length-drop}
use Rattle.std.specs.List.{count_by}
use Rattle.std.proofs.lemmas.List.Sums.{count_by-le-length}
use Rattle.broadcast_queue.specs.declared.items.Item.{Item}
use Rattle.broadcast_queue.specs.Items.{cost, is_about, those_that_fit}
use Rattle.broadcast_queue.specs.Broadcasts.{Queue, without_all}
use Rattle.broadcast_queue.specs.Contents.{held}
use Rattle.broadcast_queue.proofs.Picks.{next_of, next_pick}
use Rattle.broadcast_queue.proofs.Pointers.{count_by-cons}
use Rattle.broadcast_queue.proofs.contents.Contents.delete_all.Goals as goal

pub delete_item-requires-clause-there : goal.delete_item-requires-clause-there
delete_item-requires-clause-there c =
    let it = c.item-item.result in
    let so_far = c.loop-item.invariant in
    let next = next_of c.args.picked.now c.loop-item.item-index it c.loop-item-test.true c.item-item.is in
    (next_pick so_far.picked.0 so_far.picked.1.0 c.loop-item.self.items.items it (drop (c.loop-item.item-index + 1) c.args.picked.now) so_far.sound.ordered (sym next ∙ so_far.picked.1.1)).0

pub loop-item-preserved : goal.loop-item-preserved
loop-item-preserved c =
    let it = c.item-item.result in
    let picked = c.args.picked.now in
    let rest = drop (c.loop-item.item-index + 1) picked in
    let so_far = c.loop-item.invariant in
    let next = next_of picked c.loop-item.item-index it c.loop-item-test.true c.item-item.is in
    let measure = so_far.picked.0 in
    let left = so_far.picked.1.0 - cost measure it in
    record {
      sound = c.delete_item.ensures.sound;
      rest = ap (λ (q : Queue). without_all true rest q) c.delete_item.ensures.deleted
          ∙ sym (ap (λ (l : List Item). without_all true l (held c.loop-item.self)) next)
          ∙ so_far.rest;
      picked = (
        measure,
        (
          left,
          (next_pick measure so_far.picked.1.0 c.loop-item.self.items.items it rest so_far.sound.ordered (sym next ∙ so_far.picked.1.1)).1
              ∙ ap (λ (l : List Item). those_that_fit measure left l) (sym c.delete_item.ensures.items),
        ),
      );
      lost = c.delete_item.ensures.lost ∙ so_far.lost;
      counted = λ subject. omega (arith, so_far.counted subject, ap (count_by (is_about subject)) next, count_by-cons (is_about subject) it rest, c.delete_item.ensures.counted subject);
      shorter = omega (arith, so_far.shorter, c.delete_item.ensures.shorter);
      capacity = c.delete_item.ensures.capacity ∙ so_far.capacity;
    }

pub returns-clause-counted : goal.returns-clause-counted
returns-clause-counted c subject =
    let rest = drop c.loop-item.item-index c.args.picked.now in
    omega (arith, c.loop-item.invariant.counted subject, c.loop-item-test.false, count_by-le-length (is_about subject) rest, length-drop c.loop-item.item-index c.args.picked.now)
