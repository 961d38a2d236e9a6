-- The lines of a shard, of which some were made before.
use Rattle.std.proofs.Common.{ℕ, List, Option}
use Rattle.toml.specs.Data.{Data}
use Rattle.scenario.specs.Setup.{Setup, IsSound}
use Rattle.trace.specs.declared.row.Row.{Row}
use Rattle.member_laws.specs.Runs.{IsRunOf}
use Rattle.sweep_plan.specs.Sweep.{Sweep, run_count}
use Rattle.figures.specs.Notes.{Note}
use Rattle.shards.specs.declared.shard.Shard.{Shard}
use Rattle.shards.specs.Shards.{past_run}
use Rattle.sweep.specs.Judged.{AreAccepted}
use Rattle.sweep.specs.Table.{BeginsLines}
use Rattle.sweep.specs.Summaries.{HasCome, MakesRest}
use Rattle.sweep.specs.Shards.{BeginsRest, rest_course}
use Rattle.sweep.proofs.Steps.{begun_lines}

module _ (tree : Data) (sweep : Sweep) (mark : List ℕ) (p : Shard) (kept : ℕ) (old new : Option (List ℕ)) (runs : ℕ) where
  -- all its lines are the rest of the shard
  pub rest_whole : (HasGathered : List Note → Type 0) → HasCome tree sweep (rest_course tree mark sweep p kept runs old) new HasGathered (past_run p (run_count sweep))
      → MakesRest tree mark sweep p kept runs old new HasGathered
  rest_whole HasGathered come = record {
    writes = record { made = come.lines.made; are = come.lines.are; written = come.lines.written };
    gathered = come.gathered;
  }

  -- a beginning of its lines is one of that rest
  pub rest_begun : ((s : Setup) → IsSound s → (rows : List Row) × IsRunOf s rows) → AreAccepted tree sweep
      → BeginsLines tree sweep (rest_course tree mark sweep p kept runs old) new → BeginsRest tree mark sweep p kept runs old new
  rest_begun exists all begins =
      let begun = begun_lines tree sweep exists (rest_course tree mark sweep p kept runs old) new all begins in
      record { made = begun.0; are = begun.1; written = begun.2 }
