use Rattle.std.proofs.Common.{◌≡◌, ◌<◌, ◌≤◌, ℕ, slice_index}
use Rattle.drive_pipes.proofs.incoming.feed_at.Given as goal

-- no line feed so far
abbrev pub invariant-loop-place : goal.invariant-loop-place
invariant-loop-place l = (k : ℕ) → l.from ≤ k → k < l.place → slice_index l.bytes k ≡ 10 → ⊥
