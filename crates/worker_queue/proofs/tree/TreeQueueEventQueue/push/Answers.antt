use Rattle.std.proofs.Common.{ap, ◌∙◌, sym}
use Rattle.std.specs.FinMap.{from_entries, insert}
use Rattle.base.specs.Order.{key_cmp, key_total, key_exact}
use Rattle.base.proofs.Trees.{map-insert}
use Rattle.worker_queue.proofs.Events.{keyed_inserted}
use Rattle.worker_queue.proofs.tree.TreeQueueEventQueue.push.Goals as goal

pub invariant_of-self : goal.invariant_of-self
unfolding key_cmp
invariant_of-self g c = record {
  keyed =
      keyed_inserted g.E.Keyed.key c.args.self.now.events c.insert.new.self c.args.event c.key.result c.insert.result c.args.self.now.keyed (sym c.key.ensures)
      c.insert.ensures.updates c.insert.ensures.err;
}

pub returns-in-Ok-clause-ok : goal.returns-in-Ok-clause-ok
unfolding key_cmp
returns-in-Ok-clause-ok g c =
    map-insert key_total key_exact c.args.self.now.events.entries c.insert.new.self.entries c.key.result c.args.event c.in-Ok.ensures.updates.0
    ∙ ap (λ k. insert (from_entries c.args.self.now.events.entries) k c.args.event) c.key.ensures
