use Rattle.std.proofs.Common.{ap, ◌∙◌, sym}
use Rattle.std.specs.List.{list_any}
use Rattle.std.specs.Ordering.{eq_by_cmp}
use Rattle.std.proofs.lemmas.Bool.{false≢true, eqb-true, eq-eqb}
use Rattle.base.specs.Order.{key_cmp}
use Rattle.worker_queue.specs.SetOf.{set_of}
use Rattle.worker_queue.proofs.Events.{at_most_by_cmp}
use Rattle.worker_queue.proofs.Receivers.{all_left, left_after, found_for, none_before_bound}
use Rattle.worker_queue.proofs.tree.TreeQueue.least_for.Goals as goal

pub loop-key-init : goal.loop-key-init
unfolding key_cmp
loop-key-init g c =
    let keys = c.keys-key-items.ensures in
    all_left c.args.self.now.events.entries c.args.receiver c.into_iter-key-iterator.result (c.into_iter-key-iterator.ensures.into_iter_gives ∙ keys.rest) keys.ordered keys.found
    (λ q. keys.has q ∙ ap (list_any (eq_by_cmp key_cmp q)) keys.rest)

pub loop-key-preserved : goal.loop-key-preserved
loop-key-preserved g c =
    left_after (set_of c.args.self.now) c.args.receiver c.loop-key.key-iterator c.next.new.self c.in-Some.key.now c.in-Some.ensures.steps c.loop-key.invariant
    (λ own. false≢true (c.if-eq.ensures ∙ eq-eqb _ _ own))

pub returns-then-le-clause-none : goal.returns-then-le-clause-none
returns-then-le-clause-none g c =
    none_before_bound (set_of c.args.self.now) c.args.receiver c.loop-key.key-iterator c.next.new.self c.in-Some.key.now c.in-Some.ensures.steps c.loop-key.invariant c.args.bound
    (at_most_by_cmp _ _ c.if-le.ensures)

pub returns-then-eq-clause-first : goal.returns-then-eq-clause-first
returns-then-eq-clause-first g c =
    found_for (set_of c.args.self.now) c.args.receiver c.loop-key.key-iterator c.next.new.self c.in-Some.key.now c.in-Some.ensures.steps c.loop-key.invariant (eqb-true _ _ (sym c.if-eq.ensures))
