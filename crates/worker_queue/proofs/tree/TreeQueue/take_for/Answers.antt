use Rattle.std.proofs.Common.{◌≡◌, ◌<◌, Some, ◌∙◌}
use Rattle.std.specs.FinMap.{from_entries, get, remove}
use Rattle.base.specs.declared.key.Key.{Key}
use Rattle.base.specs.Order.{key_cmp, key_total, key_exact}
use Rattle.base.proofs.Trees.{get-entries, map-remove}
use Rattle.worker_queue.specs.Queue.{IsLeastKeyFor}
use Rattle.worker_queue.proofs.Events.{keyed_taken}
use Rattle.worker_queue.proofs.Receivers.{by_own, never_none}
use Rattle.worker_queue.proofs.tree.TreeQueue.take_for.Goals as goal

pub invariant_of-self : goal.invariant_of-self
unfolding key_cmp
invariant_of-self g c = record {
  keyed = keyed_taken g.E.Keyed.key c.args.self.now.events c.remove.new.self c.in_ok-key.key c.args.self.now.keyed c.remove.ensures.updates.0;
}

pub returns-clause-here : goal.returns-clause-here
unfolding key_cmp
returns-clause-here g c =
    by_own g.E.Keyed.key c.args.self.now.events c.args.self.now.keyed c.in_ok-key.key (λ k event. get (from_entries {R = key_cmp} c.args.self.now.events.entries) k ≡ Some event) c.remove.result c.remove.ensures.value
    (λ event there. get-entries key_total c.args.self.now.events.entries c.in_ok-key.key ∙ there)

pub returns-clause-first : goal.returns-clause-first
unfolding key_cmp
returns-clause-first g c =
    by_own g.E.Keyed.key c.args.self.now.events c.args.self.now.keyed c.in_ok-key.key (λ k event. IsLeastKeyFor (from_entries c.args.self.now.events.entries) c.args.receiver k) c.remove.result
    c.remove.ensures.value (λ event there. c.in_ok-key.ensures.first)

pub returns-clause-below : goal.returns-clause-below
unfolding key_cmp
returns-clause-below g c =
    by_own g.E.Keyed.key c.args.self.now.events c.args.self.now.keyed c.in_ok-key.key (λ (k : Key) event. k.at < c.args.bound) c.remove.result c.remove.ensures.value
    (λ event there. c.in_ok-key.ensures.below)

pub returns-clause-taken : goal.returns-clause-taken
unfolding key_cmp
returns-clause-taken g c =
    by_own g.E.Keyed.key c.args.self.now.events c.args.self.now.keyed c.in_ok-key.key (λ k event. from_entries {R = key_cmp} c.remove.new.self.entries ≡ remove (from_entries c.args.self.now.events.entries) k)
    c.remove.result c.remove.ensures.value
    (λ event there. map-remove key_total key_exact c.args.self.now.events.entries c.remove.new.self.entries c.in_ok-key.key c.remove.ensures.updates.0)

pub returns-clause-none : goal.returns-clause-none
unfolding key_cmp
returns-clause-none g c = never_none g.E.Keyed.key c.args.self.now.events c.args.self.now.keyed c.in_ok-key.key _ c.remove.result c.remove.ensures.value c.in_ok-key.ensures.first.here
