-- Texts that are the shards of a sweep that was made.
use Rattle.std.specs.Prelude.{◌≡◌, ℕ, List, ◌++◌, Option, All, Vec, length, map}
use Rattle.std.specs.Io.KnownBytes.{Appends}
use Rattle.std.specs.declared.alloc.Global.{Global}
use Rattle.toml.specs.Data.{Data}
use Rattle.sweep_plan.specs.Sweep.{Sweep, setting_count, run_count, seed_count}
use Rattle.shards.specs.declared.shard.Shard.{Shard}
use Rattle.shards.specs.Shards.{IsShard, whole}
use Rattle.figures.specs.declared.column_set.ColumnSet.{ColumnSet}
use Rattle.figures.specs.declared.summary.SettingSummary.{SettingSummary}
use Rattle.sweep.specs.Runs.{Made, noted}
use Rattle.sweep.specs.Table.{columns_of}
use Rattle.sweep.specs.Summaries.{SumUp}
use Rattle.sweep.specs.Shards.{AreMadeBehind, shard_table}
use Rattle.sweep_until.specs.Shards.{MakesUntil}
use Rattle.sweep_until.specs.Until.{all_of}
use Rattle.table_rows.specs.Made.{FitsLine}
use Rattle.shard_merge.specs.Among.{IsAmongTexts}
use Rattle.shard_merge.specs.Behind.{share_of}

-- the text is the shard, of these runs of the whole sweep of a document
abbrev pub IsShardText : Data → List ℕ → Sweep → List Made → List ℕ → Shard → Type 0
IsShardText tree mark sweep made text p = text ≡ shard_table (columns_of tree) mark sweep p (share_of (run_count sweep) p made)

-- each of the texts is a shard of the sweep, of which so many were made
abbrev pub AreShards : Data → List (Vec ℕ Global) → List ℕ → Sweep → ℕ → List Made → Type 0
AreShards tree texts mark sweep of made =
    (text : List ℕ) → IsAmongTexts texts text → (p : Shard) × IsShard p × (p.of ≡ of) × IsShardText tree mark sweep made text p

-- the text is a beginning of a shard of the sweep, of these runs
pub record IsCutShard (tree : Data) (mark : List ℕ) (sweep : Sweep) (p : Shard) (made : List Made) (text : List ℕ) : Type 0 where
  pub sound : IsShard p
  pub are : AreMadeBehind tree sweep p 0 made
  pub fits : All FitsLine made
  pub rest : List ℕ
  pub written : text ++ rest ≡ shard_table (columns_of tree) mark sweep p made

-- the table of the whole sweep was appended, what was read is this sweep and the columns of its tables, and each setting is summed up
pub record IsWhole (tree : Data) (mark : List ℕ) (sweep : Sweep) (made : List Made) (old new : Option (List ℕ)) (read : Sweep) (columns : ColumnSet) (settings : List SettingSummary) : Type 0 where
  pub same : read ≡ sweep
  pub column : columns ≡ columns_of tree
  pub written : Appends old new (shard_table (columns_of tree) mark sweep whole made)
  pub each : length settings ≡ setting_count sweep.swept_keys
  pub summed : SumUp (seed_count sweep.seeds) (map noted made) settings

-- ---- where settings have as many runs as are enough

-- the text is the shard, of these settings of the whole sweep of a document
abbrev pub IsSettingsText : Data → List ℕ → Sweep → List (List Made) → List ℕ → Shard → Type 0
IsSettingsText tree mark sweep made text p = text ≡ shard_table (columns_of tree) mark sweep p (all_of (share_of (setting_count sweep.swept_keys) p made))

-- each of the texts is a shard of the sweep, of so many
abbrev pub AreShardsOfSettings : Data → List (Vec ℕ Global) → List ℕ → Sweep → ℕ → List (List Made) → Type 0
AreShardsOfSettings tree texts mark sweep of made =
    (text : List ℕ) → IsAmongTexts texts text → (p : Shard) × IsShard p × (p.of ≡ of) × IsSettingsText tree mark sweep made text p

-- what was read is this sweep and the columns of its tables, and the whole was made as if in one go
pub record IsWholeUntil (tree : Data) (mark : List ℕ) (sweep : Sweep) (width : ℕ) (old new : Option (List ℕ)) (read : Sweep) (columns : ColumnSet) (settings : List SettingSummary) : Type 0 where
  pub same : read ≡ sweep
  pub column : columns ≡ columns_of tree
  pub makes : MakesUntil tree mark sweep width old new settings

-- ---- a table that is put together alone

-- each of the texts is this one
abbrev pub AreAll : List (Vec ℕ Global) → List ℕ → Type 0
AreAll texts text = (other : List ℕ) → IsAmongTexts texts other → other ≡ text

-- what was put is this table, and what was read is this sweep, and the columns of its tables
pub record IsAgain (table : List ℕ) (sweep : Sweep) (columns : ColumnSet) (put : List ℕ) (read : Sweep) (columns_too : ColumnSet) : Type 0 where
  pub same_table : put ≡ table
  pub same_sweep : read ≡ sweep
  pub column : columns_too ≡ columns
