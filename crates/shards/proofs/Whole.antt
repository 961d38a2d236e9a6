-- The only shard of a sweep that is made in one has all runs.
use Rattle.std.proofs.Common.{◌≡◌, ℕ, arith}
use Rattle.shards.specs.Shards.{IsShard, first_run, past_run, whole}
use Rattle.shards.proofs.Bounds.{whole_share}

pub whole_is_shard : IsShard whole
whole_is_shard = record { least = omega arith; most = omega arith; few = omega arith }

pub first_of_whole : (runs : ℕ) → first_run whole runs ≡ 0
first_of_whole runs = omega arith

pub past_of_whole : (runs : ℕ) → past_run whole runs ≡ runs
past_of_whole runs = whole_share 1 runs (omega arith)
