use Rattle.std.proofs.Common.{◌-◌, ◌≡◌, ℕ, ◌<◌, ◌≤◌, length}
use Rattle.scenario.specs.Calendar.{HasNoted}
use Rattle.scenario.proofs.calendar.mark_in.Given as goal

abbrev pub invariant-loop-place : goal.invariant-loop-place
invariant-loop-place l = record {
  same : length l.owners.items ≡ length l.fn.owners.items;
  noted : (k : ℕ) → l.first ≤ k → k < l.place → k < length l.fn.owners.items → HasNoted l.owners.items k l.owner;
  kept : (k o : ℕ) → HasNoted l.fn.owners.items k o → HasNoted l.owners.items k o;
}

abbrev pub decreases-loop-place : goal.decreases-loop-place
decreases-loop-place l = l.end - l.place
