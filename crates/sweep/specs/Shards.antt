-- The table of a shard of a sweep, or what comes behind those bytes of it that were written before. A whole sweep is its only shard, with nothing written before.
use Rattle.std.specs.Prelude.{ℕ, ◌+◌, List, ◌++◌, Option, drop}
use Rattle.std.specs.List.{flat_map}
use Rattle.std.specs.Io.KnownBytes.{Appends}
use Rattle.toml.specs.Data.{Data}
use Rattle.trace.specs.Sinks.{AppendsBeginning}
use Rattle.figures.specs.declared.column_set.ColumnSet.{ColumnSet}
use Rattle.figures.specs.Lines.{header_line}
use Rattle.sweep_plan.specs.Sweep.{Sweep, run_count}
use Rattle.shards.specs.declared.shard.Shard.{Shard}
use Rattle.shards.specs.Shards.{first_run, past_run}
use Rattle.shards.specs.Names.{head_cell}
use Rattle.sweep.specs.Runs.{Made, AreMadeBetween}
use Rattle.sweep.specs.Sums.{sweep_key}
use Rattle.sweep.specs.Table.{Course, names_of, columns_of, noted_line}

-- the runs of a shard but for so many, the first
abbrev pub AreMadeBehind : Data → Sweep → Shard → ℕ → List Made → Type 0
AreMadeBehind tree sweep p runs made = AreMadeBetween tree sweep (first_run p (run_count sweep) + runs) (past_run p (run_count sweep)) made

-- the first line of a shard: its name, over the notes, and the header of the sweep's table
abbrev pub shard_header : ColumnSet → List ℕ → Sweep → Shard → List ℕ
shard_header columns mark sweep p = head_cell mark sweep p ++ header_line columns (names_of sweep.swept_keys)

-- that line, and the lines of the shard's runs, each with its checksum and its note before it
abbrev pub shard_table : ColumnSet → List ℕ → Sweep → Shard → List Made → List ℕ
shard_table columns mark sweep p made = shard_header columns mark sweep p ++ flat_map (noted_line columns (sweep_key mark sweep)) made

-- what comes behind so many bytes of it: what they lack of its first line, and the lines of the runs that were left
abbrev pub rest_text : ColumnSet → List ℕ → Sweep → Shard → ℕ → List Made → List ℕ
rest_text columns mark sweep p kept made = drop kept (shard_header columns mark sweep p) ++ flat_map (noted_line columns (sweep_key mark sweep)) made

-- that was appended, where the lines of so many runs were written before
pub record WritesRest (tree : Data) (mark : List ℕ) (sweep : Sweep) (p : Shard) (kept runs : ℕ) (old new : Option (List ℕ)) : Type 0 where
  pub made : List Made
  pub are : AreMadeBehind tree sweep p runs made
  pub written : Appends old new (rest_text (columns_of tree) mark sweep p kept made)

-- a beginning of it was
pub record BeginsRest (tree : Data) (mark : List ℕ) (sweep : Sweep) (p : Shard) (kept runs : ℕ) (old new : Option (List ℕ)) : Type 0 where
  pub made : List Made
  pub are : AreMadeBehind tree sweep p runs made
  pub written : AppendsBeginning old new (rest_text (columns_of tree) mark sweep p kept made)

-- how these lines come, behind what was written before
abbrev pub rest_course : Data → List ℕ → Sweep → Shard → ℕ → ℕ → Option (List ℕ) → Course
rest_course tree mark sweep p kept runs start = record {
  key = sweep_key mark sweep;
  start = start;
  front = drop kept (shard_header (columns_of tree) mark sweep p);
  from = first_run p (run_count sweep) + runs;
  till = past_run p (run_count sweep);
}
