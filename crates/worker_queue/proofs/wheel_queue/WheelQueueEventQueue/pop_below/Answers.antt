use Rattle.std.proofs.Common.{ap, ◌∙◌, sym}
use Rattle.std.specs.FinMap.{len}
use Rattle.worker_queue.specs.Stores.{all_in}
use Rattle.worker_queue.proofs.Places.{some_at}
use Rattle.worker_queue.proofs.Unions.{one_less_popped}
use Rattle.worker_queue.proofs.wheel_queue.WheelQueueEventQueue.pop_below.Goals as goal

pub overflow_sub-self : goal.overflow_sub-self
overflow_sub-self g c =
    some_at g.E.Keyed.key c.find.new.self c.args.bound c.args.self.now.count (c.args.self.now.counted ∙ sym (ap len c.in_ok-place.ensures.same)) c.in_ok-place.place c.in_ok-place.ensures.next

pub invariant_of-self-2 : goal.invariant_of-self-2
invariant_of-self-2 g c =
    let key = g.E.Keyed.key in
    record {
      counted =
          one_less_popped key (all_in key c.find.new.self) (all_in key c.pop_at.new.self) c.pop_at.result c.args.self.now.count c.pop_at.ensures.some c.pop_at.ensures.first c.pop_at.ensures.taken
          (c.args.self.now.counted ∙ sym (ap len c.in_ok-place.ensures.same));
    }
