-- What tables put together are.
use Rattle.std.specs.Prelude.{◌≡◌, ◌⊎◌, ◌≤◌, ◌+◌, ℕ, List, ◌++◌, Option, None, Vec, All, length, map}
use Rattle.std.specs.List.{flat_map}
use Rattle.std.specs.Io.KnownBytes.{Appends}
use Rattle.std.specs.declared.alloc.Global.{Global}
use Rattle.sweep_plan.specs.Sweep.{Sweep, setting_count, run_count, seed_count}
use Rattle.sweep_plan.specs.declared.seeds.Seeds.{Seeds}
use Rattle.figures.specs.declared.column_set.ColumnSet.{ColumnSet}
use Rattle.figures.specs.declared.summary.SettingSummary.{SettingSummary}
use Rattle.shards.specs.Shards.{whole}
use Rattle.sweep.specs.Runs.{IsAskedFor}
use Rattle.sweep.specs.Summaries.{SumUp}
use Rattle.sweep.specs.Shards.{shard_header}
use Rattle.sweep.specs.Sums.{line_key, sweep_key}
use Rattle.table_rows.specs.Lines.{Line, IsLine, notes_of, shard_line}
use Rattle.shard_merge.specs.Among.{IsAmongTexts}
use Rattle.shard_merge.specs.Joined.{ArePlaced, IsMark}
use Rattle.shard_merge.specs.Joined.{Joins as JoinsShards}
use Rattle.table_merge.specs.Seeds.{AreInTurn, Ranged, in_turn, seeds_of_tables, with_seeds}
use Rattle.table_merge.specs.Found.{HaveSeeds}
use Rattle.table_merge.specs.Lines.{resummed}

-- One of the texts is the table of the sweep with these seeds, and these are its lines: one for each run, each genuine at its place.
pub record IsRangeTable (texts : List (Vec ℕ Global)) (mark : List ℕ) (columns : ColumnSet) (sweep : Sweep) (t : Ranged Line) : Type 0 where
  pub asked : IsAskedFor (with_seeds sweep t.seeds)
  pub there : IsAmongTexts texts (shard_header columns mark (with_seeds sweep t.seeds) whole ++ flat_map shard_line t.things)
  pub many : length t.things ≡ run_count (with_seeds sweep t.seeds)
  pub sound : All IsLine t.things
  pub genuine : ArePlaced (line_key columns None mark (with_seeds sweep t.seeds)) (with_seeds sweep t.seeds) t.things

-- the lines of these tables in the order of the whole, each with its checksum of that
abbrev pub merged_lines : List ℕ → Sweep → List (Ranged Line) → List Line
merged_lines mark sweep tables = map (resummed (sweep_key mark sweep)) (in_turn (setting_count sweep.swept_keys) tables)

-- The texts, several, are tables of a sweep with seeds that follow one another, as many as there are. Their lines were appended as the table of this sweep, whose
-- seeds are all of theirs, and these are the summaries of its settings.
pub record JoinsSeeds (texts : List (Vec ℕ Global)) (old new : Option (List ℕ)) (sweep : Sweep) (columns : ColumnSet) (settings : List SettingSummary) : Type 0 where
  pub asked : IsAskedFor sweep
  pub mark : List ℕ
  pub marked : IsMark mark
  pub all : Seeds
  pub seeded : sweep ≡ with_seeds sweep all
  pub tables : List (Ranged Line)
  pub several : 2 ≤ length tables
  pub as_many : length tables ≡ length texts
  pub follow : AreInTurn all.first (seeds_of_tables tables) (all.last + 1)
  pub each : All (IsRangeTable texts mark columns sweep) tables
  pub written : Appends old new (shard_header columns mark sweep whole ++ flat_map shard_line (merged_lines mark sweep tables))
  pub count : length settings ≡ setting_count sweep.swept_keys
  pub summed : SumUp (seed_count sweep.seeds) (notes_of (in_turn (setting_count sweep.swept_keys) tables)) settings

-- The texts were put together: tables of a sweep with seeds that follow one another, or else all shards of a sweep.
abbrev pub Joins : List (Vec ℕ Global) → Option (List ℕ) → Option (List ℕ) → Sweep → ColumnSet → List SettingSummary → Type 0
Joins texts old new sweep columns settings = (¬ (HaveSeeds texts) × JoinsShards texts old new sweep columns settings) ⊎ JoinsSeeds texts old new sweep columns settings
