-- Times in which a member is slow that come one after the other.
use Rattle.std.specs.Prelude.{ℕ, ◌<◌, ◌≤◌, List, length}
use Rattle.std.specs.List.{slice_index_or}
use Rattle.links.specs.declared.spans.times.SlowSpan.{SlowSpan}

-- each is over no earlier than it begins, and begins no earlier than those before it are over
pub record Rise (times : List SlowSpan) : Type 0 where
  pub lasts : (i : ℕ) (d : SlowSpan) → i < length times → (slice_index_or times i d).from ≤ (slice_index_or times i d).until
  pub over : (i j : ℕ) (d : SlowSpan) → i < j → j < length times → (slice_index_or times i d).until ≤ (slice_index_or times j d).from
