use Rattle.std.proofs.Common.{ℕ, ◌^◌, ◌<◌, ◌≤◌, slice_index}
use Rattle.membership.proofs.table.past_all.Given as goal

abbrev pub invariant-loop-member : goal.invariant-loop-member
invariant-loop-member l = record {
  above : (k : ℕ) → k < l.member-index → slice_index l.members k ≤ l.greatest;
  few : l.greatest < 2 ^ 16;
}
