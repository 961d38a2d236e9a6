use Rattle.std.proofs.Common.{◌≡◌, ◌<◌, ap, ◌∙◌, sym, subst}
use Rattle.std.specs.FinMap.{from_entries, remove}
use Rattle.base.specs.declared.key.Key.{Key}
use Rattle.base.specs.Order.{key_cmp, key_total, key_exact}
use Rattle.base.specs.Run.{IsFirst}
use Rattle.base.proofs.Trees.{map-remove}
use Rattle.worker_queue.proofs.Events.{keyed_popped, at_most_by_cmp, above_by_cmp, none_below_least, none_in_empty, first_of, same_least, no_entries, if_none}
use Rattle.worker_queue.proofs.tree.TreeQueueEventQueue.pop_below.Goals as goal

pub returns-in_err-least-clause-none : goal.returns-in_err-least-clause-none
returns-in_err-least-clause-none g c = if_none _ _ (none_in_empty _ c.args.bound c.in_err-least.ensures.none)

pub returns-then-le-clause-none : goal.returns-then-le-clause-none
returns-then-le-clause-none g c = none_below_least c.args.self.now.events.entries c.in_ok-least.least c.args.bound c.in_ok-least.ensures.least (at_most_by_cmp _ _ c.if-le.ensures)

pub invariant_of-self : goal.invariant_of-self
unfolding key_cmp
invariant_of-self g c = record {
  keyed = keyed_popped g.E.Keyed.key c.args.self.now.events c.pop_first.new.self c.pop_first.result c.args.self.now.keyed c.pop_first.ensures.updates c.pop_first.ensures.unchanged;
}

pub returns-in_err-event-clause-none : goal.returns-in_err-event-clause-none
returns-in_err-event-clause-none g c = if_none _ _ (none_in_empty _ c.args.bound (ap from_entries (no_entries c.args.self.now.events.entries c.in_err-event.ensures.variant.1)))

pub returns-clause-first : goal.returns-clause-first
unfolding key_cmp
returns-clause-first g c =
    let key = c.in_ok-event.field-0-0 in
    let event = c.in_ok-event.event in
    subst (λ k. IsFirst (from_entries c.args.self.now.events.entries) k event) (sym (c.args.self.now.keyed key event c.in_ok-event.ensures.value))
    (first_of c.args.self.now.events.entries key event c.in_ok-event.ensures.value c.in_ok-event.ensures.least)

pub returns-clause-below : goal.returns-clause-below
unfolding key_cmp
returns-clause-below g c =
    let key = c.in_ok-event.field-0-0 in
    let event = c.in_ok-event.event in
    let first = first_of c.args.self.now.events.entries key event c.in_ok-event.ensures.value c.in_ok-event.ensures.least in
    let same : c.in_ok-least.least ≡ key = same_least c.args.self.now.events.entries c.in_ok-least.least key event c.in_ok-least.ensures.least first in
    subst (λ (k : Key). k.at < c.args.bound) (same ∙ sym (c.args.self.now.keyed key event c.in_ok-event.ensures.value)) (above_by_cmp _ _ c.if-le.ensures)

pub returns-clause-taken : goal.returns-clause-taken
unfolding key_cmp
returns-clause-taken g c =
    let key = c.in_ok-event.field-0-0 in
    let event = c.in_ok-event.event in
    map-remove key_total key_exact c.args.self.now.events.entries c.pop_first.new.self.entries key c.in_ok-event.ensures.updates.0
    ∙ ap (remove (from_entries c.args.self.now.events.entries)) (sym (c.args.self.now.keyed key event c.in_ok-event.ensures.value))
