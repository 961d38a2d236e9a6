use Rattle.std.proofs.Common.{◌+◌, length, ap, ◌∙◌}
use Rattle.std.proofs.lemmas.List.{length_push}
use Rattle.worker_queue.specs.Wheel.{lists_of, slot_at}
use Rattle.worker_queue.proofs.Turned.{still_empty}
use Rattle.worker_queue.proofs.wheel.empty_slots.Goals as goal

pub loop-init : goal.loop-init
loop-init g c = record {
  sized = ap length c.new-slots.ensures.items;
  empty = λ place. ap (λ l. slot_at (lists_of l) place) c.new-slots.ensures.items;
}

pub loop-preserved : goal.loop-preserved
loop-preserved g c = record {
  sized = ap length c.in_ok-push.ensures.items ∙ length_push c.loop.slots.items c.new.result ∙ ap (λ n. n + 1) c.loop.invariant.sized;
  empty = λ place.
      ap (λ l. slot_at (lists_of l) place) c.in_ok-push.ensures.items
      ∙ still_empty (λ s. s.events.items) c.loop.slots.items c.new.result c.loop.invariant.empty c.new.ensures place;
}
