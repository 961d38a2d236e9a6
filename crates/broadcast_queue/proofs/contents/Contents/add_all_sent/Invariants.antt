use Rattle.std.proofs.Common.{◌≡◌, ◌+◌, ◌-◌, ◌≤◌, ℕ, drop, length}
use Rattle.std.specs.List.{count_by}
use Rattle.broadcast_queue.specs.Items.{is_about}
use Rattle.broadcast_queue.specs.Broadcasts.{with_all_sent}
use Rattle.broadcast_queue.specs.Contents.{count_about, HasRoom, held, IsSound}
use Rattle.broadcast_queue.proofs.contents.Contents.add_all_sent.Given as goal

-- what the others make of the queue so far is what all make of it
abbrev pub invariant-loop-item : goal.invariant-loop-item
invariant-loop-item l = record {
  sound : IsSound l.self;
  rest : with_all_sent l.limit (drop l.item-index l.picked) (held l.self) ≡ with_all_sent l.limit l.picked (held l.fn.self);
  without : (subject : ℕ) → count_by (is_about subject) (drop l.item-index l.picked) + count_about subject l.self ≤ 1;
  room : HasRoom (length l.picked - l.item-index) l.self;
}
