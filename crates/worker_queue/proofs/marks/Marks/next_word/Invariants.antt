use Rattle.std.proofs.Common.{◌≡◌, ℕ, ◌*◌, ◌<◌, ◌≤◌}
use Rattle.worker_queue.specs.Marks.{mark_at}
use Rattle.worker_queue.proofs.marks.Marks.next_word.Given as goal

abbrev pub invariant-loop-word : goal.invariant-loop-word
invariant-loop-word l = (k : ℕ) → 64 * l.from ≤ k → k < 64 * l.word → mark_at l.self.words k ≡ 0
