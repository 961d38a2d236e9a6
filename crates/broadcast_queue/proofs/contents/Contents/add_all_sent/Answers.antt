use Rattle.std.proofs.Common.{◌≡◌, ◌+◌, ◌-◌, List, drop, length, refl, sym, ap, subst, ◌∙◌, arith}
use Rattle.std.specs.List.{count_by}
use Rattle.std.proofs.lemmas.Bool.{eq-eqb}
use Rattle.broadcast_queue.specs.declared.items.Item.{Item}
use Rattle.broadcast_queue.specs.Items.{is_about}
use Rattle.broadcast_queue.specs.Broadcasts.{Queue, with_all_sent}
use Rattle.broadcast_queue.specs.Contents.{HasRoom, held}
use Rattle.broadcast_queue.proofs.Picks.{next_of}
use Rattle.broadcast_queue.proofs.Pointers.{count_by-cons, one_of}
use Rattle.broadcast_queue.proofs.contents.Contents.add_all_sent.Goals as goal

pub add_sent-requires-clause-without : goal.add_sent-requires-clause-without
add_sent-requires-clause-without c =
    let it = c.item-item.result in
    let rest = drop (c.loop-item.item-index + 1) c.args.picked.now in
    let about = is_about it.update.subject in
    let next = next_of c.args.picked.now c.loop-item.item-index it c.loop-item-test.true c.item-item.is in
    omega (arith, c.loop-item.invariant.without it.update.subject, ap (count_by about) next, count_by-cons about it rest, one_of (about it) (eq-eqb it.update.subject it.update.subject refl))

pub loop-item-preserved : goal.loop-item-preserved
loop-item-preserved c =
    let it = c.item-item.result in
    let picked = c.args.picked.now in
    let rest = drop (c.loop-item.item-index + 1) picked in
    let so_far = c.loop-item.invariant in
    let next = next_of picked c.loop-item.item-index it c.loop-item-test.true c.item-item.is in
    let left = length picked - (c.loop-item.item-index + 1) in
    record {
      sound = c.add_sent.ensures.sound;
      rest = ap (λ (q : Queue). with_all_sent c.args.limit rest q) c.add_sent.ensures.added
          ∙ sym (ap (λ (l : List Item). with_all_sent c.args.limit l (held c.loop-item.self)) next)
          ∙ so_far.rest;
      without = λ subject. omega (arith, so_far.without subject, ap (count_by (is_about subject)) next, count_by-cons (is_about subject) it rest, c.add_sent.ensures.counted subject);
      room = c.add_sent.ensures.room left (let one : length picked - c.loop-item.item-index ≡ left + 1 = omega (arith, c.loop-item-test.true) in subst (λ n. HasRoom n c.loop-item.self) one so_far.room);
    }
