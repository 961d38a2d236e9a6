use Rattle.worker_queue.specs.Stores.{all_in}
use Rattle.worker_queue.proofs.Unions.{one_more}
use Rattle.worker_queue.proofs.wheel_queue.WheelQueueEventQueue.push.Goals as goal

pub invariant_of-self-2 : goal.invariant_of-self-2
invariant_of-self-2 g c =
    let key = g.E.Keyed.key in
    record {
      counted = one_more (all_in key c.args.self.now.stores) (all_in key c.push.new.self) (key c.args.event) c.args.event c.args.self.now.count c.in_ok-push.ensures.ok c.requires c.args.self.now.counted;
    }
