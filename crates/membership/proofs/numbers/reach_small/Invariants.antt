use Rattle.std.proofs.Common.{◌≡◌, ℕ, ◌+◌, ◌-◌, ◌≤◌, length, slice_index, vec_len}
use Rattle.membership.proofs.numbers.reach_small.Given as goal

abbrev pub invariant-loop-smalls : goal.invariant-loop-smalls
invariant-loop-smalls l = record {
  same : (k : ℕ) → slice_index l.smalls.items k ≡ slice_index l.fn.smalls.items k;
  long : length l.fn.smalls.items ≤ length l.smalls.items;
}

abbrev pub decreases-loop-smalls : goal.decreases-loop-smalls
decreases-loop-smalls l = l.place + 1 - vec_len l.smalls
