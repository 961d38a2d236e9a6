use Rattle.std.proofs.Common.{◌≡◌, ap, arith}
use Rattle.base.specs.declared.key.Key.{Key}
use Rattle.worker_queue.specs.SetOf.{set_of}
use Rattle.worker_queue.specs.Wheel.{events_in}
use Rattle.worker_queue.proofs.Unions.{not_in_first, not_in_second, apart_after_push, all_after_push, apart_after_late_push, all_after_late_push, none_below_pushed}
use Rattle.worker_queue.proofs.stores.Stores.push.Goals as goal

pub push-requires-clause-new : goal.push-requires-clause-new
push-requires-clause-new g c = not_in_first (events_in g.E.Keyed.key c.args.self.now.wheel.slots.items) (set_of c.args.self.now.late) (g.E.Keyed.key c.args.event) c.requires

pub invariant_of-self : goal.invariant_of-self
invariant_of-self g c = record {
  apart =
      apart_after_push (events_in g.E.Keyed.key c.args.self.now.wheel.slots.items) (events_in g.E.Keyed.key c.push.new.self.slots.items) (set_of c.args.self.now.late) (g.E.Keyed.key c.args.event) c.args.event c.push.result c.push.ensures.ok c.push.ensures.unchanged c.args.self.now.apart c.requires;
  not_earlier = c.args.self.now.not_earlier;
}

pub push-requires-else-spans : goal.push-requires-else-spans
push-requires-else-spans g c = not_in_second (events_in g.E.Keyed.key c.args.self.now.wheel.slots.items) (set_of c.args.self.now.late) (g.E.Keyed.key c.args.event) c.requires

pub invariant_of-self-else-spans : goal.invariant_of-self-else-spans
invariant_of-self-else-spans g c = record {
  apart =
      apart_after_late_push (events_in g.E.Keyed.key c.args.self.now.wheel.slots.items) (set_of c.args.self.now.late) (set_of c.push-else-spans.new.self) (g.E.Keyed.key c.args.event) c.args.event c.push-else-spans.result c.push-else-spans.ensures.ok c.push-else-spans.ensures.unchanged c.args.self.now.apart
      c.requires;
  not_earlier =
      none_below_pushed (set_of c.args.self.now.late) (set_of c.push-else-spans.new.self) (g.E.Keyed.key c.args.event) c.args.event c.args.self.now.late_from c.min-self.result c.push-else-spans.result c.push-else-spans.ensures.ok c.push-else-spans.ensures.unchanged
      (omega (arith, c.min-self.ensures)) (let at : c.key-at.result.at ≡ (g.E.Keyed.key c.args.event).at = ap (λ (k : Key). k.at) c.key-at.ensures in omega (arith, c.min-self.ensures, c.ticks.ensures, at)) c.args.self.now.not_earlier;
}

pub returns-then-spans-clause-ok : goal.returns-then-spans-clause-ok
returns-then-spans-clause-ok g c = all_after_push (events_in g.E.Keyed.key c.args.self.now.wheel.slots.items) (events_in g.E.Keyed.key c.push.new.self.slots.items) (set_of c.args.self.now.late) (g.E.Keyed.key c.args.event) c.args.event c.push.result c.push.ensures.ok

pub returns-else-spans-clause-ok : goal.returns-else-spans-clause-ok
returns-else-spans-clause-ok g c =
    all_after_late_push (events_in g.E.Keyed.key c.args.self.now.wheel.slots.items) (set_of c.args.self.now.late) (set_of c.push-else-spans.new.self) (g.E.Keyed.key c.args.event) c.args.event c.push-else-spans.result c.push-else-spans.ensures.ok c.requires
