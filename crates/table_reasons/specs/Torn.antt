-- Which line of a table is wrong.
use Rattle.std.specs.Prelude.{◌≡◌, ◌⊎◌, ◌+◌, ◌-◌, ℕ, List}
use Rattle.shards.specs.Shards.{first_run, past_run}
use Rattle.shards.specs.declared.shard.Shard.{Shard}
use Rattle.sweep_plan.specs.Sweep.{Sweep, run_count}
use Rattle.sweep.specs.Sums.{BeginsWithLines, HasLineOf}
use Rattle.sweep.specs.declared.summing.LineKey.{LineKey}

-- behind its first line the shard's table has the genuine lines of its first runs; the next line, which has this number, isn't that of the next run, or all runs
-- have theirs
pub record IsWrongLine (key : LineKey) (sweep : Sweep) (p : Shard) (lines : List ℕ) (line : ℕ) : Type 0 where
  pub count : ℕ
  pub left : List ℕ
  pub begins : BeginsWithLines key sweep (first_run p (run_count sweep)) lines left count
  pub number : line ≡ count + 2
  pub wrong : (count ≡ past_run p (run_count sweep) - first_run p (run_count sweep)) ⊎ ¬ (HasLineOf key sweep (first_run p (run_count sweep) + count) left)
