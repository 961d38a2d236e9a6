use Rattle.std.proofs.Common.{◌≡◌, ℕ, ◌+◌, ◌-◌, ◌≤◌, length, slice_index, vec_len}
use Rattle.membership.proofs.numbers.reach_number.Given as goal

abbrev pub invariant-loop-numbers : goal.invariant-loop-numbers
invariant-loop-numbers l = record {
  same : (k : ℕ) → slice_index l.numbers.items k ≡ slice_index l.fn.numbers.items k;
  long : length l.fn.numbers.items ≤ length l.numbers.items;
}

abbrev pub decreases-loop-numbers : goal.decreases-loop-numbers
decreases-loop-numbers l = l.place + 1 - vec_len l.numbers
