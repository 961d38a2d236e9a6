use Rattle.std.proofs.Common.{◌≡◌, ℕ, ◌+◌, length, Some}
use Rattle.std.specs.List.{slice_get, sum_by}
use Rattle.parallel_run.specs.declared.closed_relay.ClosedRelay.{ClosedRelay}
use Rattle.parallel_run.specs.declared.board_item.BoardEntry.{BoardEntry}
use Rattle.parallel_run.specs.Dealt.{all_ended}
use Rattle.parallel_run.specs.Returned.{ended_entry}
use Rattle.parallel_run.specs.Relays.{IsClosed}
use Rattle.parallel_run.proofs.relay_ends.close_each.Given as goal

abbrev pub invariant-loop-number : goal.invariant-loop-number
invariant-loop-number g l = record {
  count : length l.closed.items ≡ l.number;
  weights : (weight : BoardEntry → ℕ) → sum_by (λ e. weight (ended_entry e)) l.senders.items + sum_by weight (all_ended l.number) ≡ sum_by (λ e. weight (ended_entry e)) l.fn.senders.items;
  each : (i : ℕ) (one : ClosedRelay) → slice_get l.closed.items i ≡ Some one → IsClosed l.relays i one;
}
