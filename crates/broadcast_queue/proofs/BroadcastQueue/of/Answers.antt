use Rattle.std.proofs.Common.{◌≡◌, Some, None, ap, ◌∙◌, sym}
use Rattle.std.specs.List.{find, position}
use Rattle.broadcast_queue.specs.Items.{is_about}
use Rattle.broadcast_queue.specs.Broadcasts.{Queue}
use Rattle.broadcast_queue.specs.Contents.{queue_of}
use Rattle.broadcast_queue.proofs.Pointers.{found_at_place, none_at_place}
use Rattle.broadcast_queue.proofs.BroadcastQueue.of.Goals as goal

pub returns-in-Some : goal.returns-in-Some
unfolding queue_of
returns-in-Some c =
    let items = c.self.inside.contents.items.items in
    let about = is_about c.args.subject in
    let is : Some c.in-Some.place ≡ position about items = rw c.deref.ensures.value at c.in-Some.ensures in
    ap Some c.index.ensures ∙ sym (found_at_place about items c.in-Some.place c.index.result.now is) ∙ ap (λ (q : Queue). find about q.items) c.self.view_is

pub returns-in-None : goal.returns-in-None
unfolding queue_of
returns-in-None c =
    let items = c.self.inside.contents.items.items in
    let about = is_about c.args.subject in
    let is : None ≡ position about items = rw c.deref.ensures.value at c.in-None.ensures in
    sym (none_at_place about items is) ∙ ap (λ (q : Queue). find about q.items) c.self.view_is
