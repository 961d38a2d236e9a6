-- When a run may lose something to threads.
use Rattle.std.proofs.Common.{ℕ, ◌≤◌, arith}

-- where fewer workers are several, all are
pub by_fewer : (fewer workers : ℕ) → fewer ≤ workers → 2 ≤ fewer → 2 ≤ workers
by_fewer fewer workers low several = omega (arith, several, low)
