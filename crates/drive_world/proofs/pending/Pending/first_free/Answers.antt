use Rattle.std.proofs.Common.{ap, ◌∙◌, sym}
use Rattle.std.specs.List.{list_any}
use Rattle.std.specs.Ordering.{eq_by_cmp}
use Rattle.base.specs.Order.{key_cmp}
use Rattle.drive_world.specs.WorldOf.{events_in}
use Rattle.drive_world.proofs.Pends.{at_most_by_cmp, above_by_cmp}
use Rattle.drive_world.proofs.Scans.{all_left, left_after, found_free, none_below}
use Rattle.drive_world.proofs.pending.Pending.first_free.Goals as goal

pub loop-key-init : goal.loop-key-init
unfolding key_cmp
loop-key-init c =
    let keys = c.keys-key-items.ensures in
    all_left c.args.self.now.contents.entries c.args.waiting.now.keys.items c.into_iter-key-iterator.result (c.into_iter-key-iterator.ensures.into_iter_gives ∙ keys.rest) keys.ordered keys.found
    (λ q. keys.has q ∙ ap (list_any (eq_by_cmp key_cmp q)) keys.rest)

pub loop-key-preserved : goal.loop-key-preserved
loop-key-preserved c =
    left_after (events_in c.args.self.now) c.args.waiting.now.keys.items c.loop-key.key-iterator c.next.new.self c.in-Some.key.now c.in-Some.ensures.steps c.loop-key.invariant
    (sym c.has.ensures ∙ c.if-not-has.false)

pub returns-then-le-clause-none : goal.returns-then-le-clause-none
returns-then-le-clause-none c =
    none_below (events_in c.args.self.now) c.args.waiting.now.keys.items c.loop-key.key-iterator c.next.new.self c.in-Some.key.now c.in-Some.ensures.steps c.loop-key.invariant c.args.bound
    (at_most_by_cmp _ _ c.if-le.ensures)

pub returns-then-not-has-clause-first : goal.returns-then-not-has-clause-first
returns-then-not-has-clause-first c =
    found_free (events_in c.args.self.now) c.args.waiting.now.keys.items c.loop-key.key-iterator c.next.new.self c.in-Some.key.now c.in-Some.ensures.steps c.loop-key.invariant c.args.bound
    (above_by_cmp _ _ c.if-le.ensures) (sym c.has.ensures ∙ c.if-not-has.true)
