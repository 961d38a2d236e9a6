use Rattle.std.proofs.Common.{arith}
use Rattle.worker_queue.proofs.Turned.{placed_risen}
use Rattle.worker_queue.proofs.wheel.Wheel.rise.Goals as goal

pub invariant_of-self : goal.invariant_of-self
invariant_of-self g c =
    let self = c.args.self.now in
    record {
      sized = self.sized;
      placed =
          placed_risen g.E.Keyed.key (λ s. s.events.items) self.slots.items self.sized self.base self.placed _ (omega arith)
          (λ q here. let early = c.requires q here in omega arith);
      marked = self.marked;
    }
