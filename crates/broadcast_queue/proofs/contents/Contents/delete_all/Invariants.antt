use Rattle.std.proofs.Common.{◌≡◌, ◌+◌, ℕ, drop, vec_len, vec_capacity}
use Rattle.std.specs.List.{count_by}
use Rattle.broadcast_queue.specs.Items.{is_about}
use Rattle.broadcast_queue.specs.Broadcasts.{without_all}
use Rattle.broadcast_queue.specs.Contents.{ArePicked, count_about, held, IsSound}
use Rattle.std.proofs.Common.{true}
use Rattle.broadcast_queue.proofs.contents.Contents.delete_all.Given as goal

-- what the others leave of the queue so far is what all leave of it
abbrev pub invariant-loop-item : goal.invariant-loop-item
invariant-loop-item l = record {
  sound : IsSound l.self;
  rest : without_all true (drop l.item-index l.picked) (held l.self) ≡ without_all true l.picked (held l.fn.self);
  picked : ArePicked (drop l.item-index l.picked) l.self.items.items;
  lost : l.self.lost ≡ l.fn.self.lost;
  counted : (subject : ℕ) → count_about subject l.fn.self + count_by (is_about subject) (drop l.item-index l.picked) ≡ count_by (is_about subject) l.picked + count_about subject l.self;
  shorter : vec_len l.self.items + l.item-index ≡ vec_len l.fn.self.items;
  capacity : vec_capacity l.self.items ≡ vec_capacity l.fn.self.items;
}
