-- Texts that are beginnings of shards of whole settings that were made.
use Rattle.std.specs.Prelude.{◌≡◌, ℕ, List, [], ◌++◌, All, Some}
use Rattle.toml.specs.Data.{Data}
use Rattle.sweep_plan.specs.Sweep.{Sweep}
use Rattle.table_rows.specs.Made.{FitsLine}
use Rattle.shards.specs.declared.shard.Shard.{Shard}
use Rattle.sweep.specs.Shards.{shard_table}
use Rattle.sweep.specs.Runs.{IsAskedFor, Made}
use Rattle.sweep.specs.Table.{columns_of}
use Rattle.sweep_until.specs.Shards.{AreSettingsBehind}
use Rattle.sweep_until.specs.Until.{all_of}

-- the text is a beginning of a shard of the sweep, which has a width, of these settings
pub record IsCutShardOfSettings (tree : Data) (mark : List ℕ) (sweep : Sweep) (width : ℕ) (p : Shard) (made : List (List Made)) (text : List ℕ) : Type 0 where
  pub asked : IsAskedFor sweep
  pub wanted : sweep.until ≡ Some width
  pub are : AreSettingsBehind tree sweep width p 0 [] made
  pub fits : All (All FitsLine) made
  pub rest : List ℕ
  pub written : text ++ rest ≡ shard_table (columns_of tree) mark sweep p (all_of made)
