use Rattle.worker_queue.proofs.Events.{if_none}
use Rattle.worker_queue.proofs.Turned.{nothing, least_of_all, some_least}
use Rattle.worker_queue.proofs.wheel.Wheel.least.Goals as goal

pub returns-in_err-place-clause-none : goal.returns-in_err-place-clause-none
returns-in_err-place-clause-none g c =
    let self = c.args.self.now in
    if_none _ _ (nothing g.E.Keyed.key (λ s. s.events.items) self.slots.items self.sized self.base self.placed c.in_err-place.ensures.none)

pub returns-clause-least : goal.returns-clause-least
returns-clause-least g c =
    let self = c.args.self.now in
    least_of_all g.E.Keyed.key (λ s. s.events.items) self.slots.items self.sized self.base self.placed c.in_ok-place.place c.in_ok-place.ensures.first.below c.index.result.now c.index.ensures
    c.in_ok-place.ensures.first _ c.least.ensures.least

pub returns-clause-none : goal.returns-clause-none
returns-clause-none g c =
    let self = c.args.self.now in
    some_least g.E.Keyed.key (λ s. s.events.items) self.slots.items self.sized self.base self.placed c.in_ok-place.place c.in_ok-place.ensures.first.below c.index.result.now c.index.ensures
    c.in_ok-place.ensures.first _ c.least.ensures.none
