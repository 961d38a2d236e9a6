use Rattle.std.proofs.Common.{◌≡◌, [], ℕ, length}
use Rattle.worker_queue.specs.Wheel.{lists_of, slot_at}
use Rattle.worker_queue.proofs.wheel.empty_slots.Given as goal

abbrev pub invariant-loop : goal.invariant-loop
invariant-loop g l = record {
  sized : length l.slots.items ≡ l.counter;
  empty : (place : ℕ) → slot_at (lists_of l.slots.items) place ≡ [];
}
