use Rattle.std.proofs.Common.{map}
use Rattle.worker_queue.proofs.Turned.{placed_nothing, marked_nothing, nothing}
use Rattle.worker_queue.proofs.wheel.Wheel.new.Goals as goal

pub invariant_of-result : goal.invariant_of-result
invariant_of-result g c =
    let lists = map (λ s. s.events.items) c.in_ok-slots.slots.items in
    record {
      sized = c.in_ok-slots.ensures.sized;
      placed = placed_nothing g.E.Keyed.key lists c.in_ok-slots.ensures.empty 0;
      marked = marked_nothing g.E.Keyed.key lists c.in_ok-slots.ensures.empty c.none.result.words c.none.ensures;
    }

pub returns : goal.returns
returns g c =
    let lists = map (λ s. s.events.items) c.in_ok-slots.slots.items in
    nothing g.E.Keyed.key (λ s. s.events.items) c.in_ok-slots.slots.items c.in_ok-slots.ensures.sized 0 (placed_nothing g.E.Keyed.key lists c.in_ok-slots.ensures.empty 0)
    (λ place below. c.in_ok-slots.ensures.empty place)
