-- Texts that are tables of a sweep that was made.
use Rattle.std.specs.Prelude.{◌≡◌, ◌≤◌, ℕ, List, Vec}
use Rattle.std.specs.declared.alloc.Global.{Global}
use Rattle.toml.specs.Data.{Data}
use Rattle.sweep_plan.specs.Sweep.{Sweep, setting_count, seed_count}
use Rattle.sweep_plan.specs.declared.seeds.Seeds.{Seeds}
use Rattle.shards.specs.Shards.{whole}
use Rattle.sweep.specs.Runs.{IsAskedFor, Made}
use Rattle.sweep.specs.Shards.{shard_table}
use Rattle.sweep.specs.Table.{columns_of}
use Rattle.shard_merge.specs.Among.{IsAmongTexts}
use Rattle.table_merge.specs.Seeds.{part, with_seeds}

-- the runs of a sweep, whose seeds are these, that have the seeds of a range
abbrev pub runs_with : Sweep → Seeds → List Made → Seeds → List Made
runs_with sweep all made r = part (setting_count sweep.swept_keys) (seed_count sweep.seeds) all.first made r

-- the text is the table of a document's sweep with the seeds of a range, of these runs of the whole
pub record IsTableText (tree : Data) (mark : List ℕ) (sweep : Sweep) (all : Seeds) (made : List Made) (text : List ℕ) : Type 0 where
  pub seeds : Seeds
  pub asked : IsAskedFor (with_seeds sweep seeds)
  pub low : all.first ≤ seeds.first
  pub high : seeds.last ≤ all.last
  pub written : text ≡ shard_table (columns_of tree) mark (with_seeds sweep seeds) whole (runs_with sweep all made seeds)

-- each of the texts is
abbrev pub AreTables : Data → List (Vec ℕ Global) → List ℕ → Sweep → Seeds → List Made → Type 0
AreTables tree texts mark sweep all made = (text : List ℕ) → IsAmongTexts texts text → IsTableText tree mark sweep all made text
