use Rattle.std.proofs.Common.{arith}
use Rattle.worker_queue.specs.SetOf.{set_of}
use Rattle.worker_queue.specs.Wheel.{events_in, event_at}
use Rattle.worker_queue.proofs.Events.{some_also}
use Rattle.worker_queue.proofs.Unions.{none_before_lesser, none_below_in_both}
use Rattle.worker_queue.proofs.stores.Stores.find.Goals as goal

pub returns-in-Some-clause-next : goal.returns-in-Some-clause-next
returns-in-Some-clause-next g c =
    let limit = c.limit-limit.result in (
      c.in-Some.ensures.within,
      some_also (event_at c.find.new.self.slots.items c.in-Some.slot c.in-Some.place) c.in-Some.ensures.first c.in-Some.ensures.before (λ event first before. (
        first,
        record { none = none_before_lesser (set_of c.args.self.now.late) (g.E.Keyed.key event) limit before c.limit-limit.ensures.late; below = c.limit-limit.ensures.below (g.E.Keyed.key event) before },
      )),
    )

pub returns-else-ticks-clause-none : goal.returns-else-ticks-clause-none
returns-else-ticks-clause-none g c =
    none_below_in_both (events_in g.E.Keyed.key c.args.self.now.wheel.slots.items) (set_of c.args.self.now.late) c.limit-limit.result c.args.bound c.in_default.ensures.none c.limit-limit.ensures.late
    (omega (arith, c.if-ticks.false, c.ticks.ensures, c.ticks-2.ensures))
