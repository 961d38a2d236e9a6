-- The shards of a sweep: which runs each has, and how it is named.
use Rattle.std.specs.Prelude.{◌≡◌, ◌≤◌, ℕ, ◌-◌, ◌*◌, ◌/◌, List, ◌∷◌, ◌++◌}
use Rattle.std.specs.Fmt.{decimal}
use Rattle.shards.specs.declared.shard.Shard.{Shard}

-- shards are numbered from 1, and there are at most 10,000
pub record IsShard (p : Shard) : Type 0 where
  pub least : 1 ≤ p.number
  pub most : p.number ≤ p.of
  pub few : p.of ≤ 10000

-- the only shard of a sweep that is made in one
abbrev pub whole : Shard
whole = record { number = 1; of = 1 }

-- a shard is written as its number, a slash and how many there are
abbrev pub shard_text : Shard → List ℕ
shard_text p = decimal p.number ++ 47 ∷ decimal p.of

-- the word is the shard, written out
pub record IsShardWord (word : List ℕ) (p : Shard) : Type 0 where
  pub written : shard_text p ≡ word
  pub sound : IsShard p

-- the number of its first run, counted from 0, and the one past its last: all shards one after the other have all runs, each nearly as many
abbrev pub first_run : Shard → ℕ → ℕ
first_run p runs = (p.number - 1) * runs / p.of

abbrev pub past_run : Shard → ℕ → ℕ
past_run p runs = p.number * runs / p.of
