-- Which text is a table with which seeds.
use Rattle.std.specs.Prelude.{◌≡◌, ◌≤◌, ◌<◌, ◌+◌, ℕ, List, [], ◌∷◌, All, Vec, length}
use Rattle.std.specs.List.{Contains}
use Rattle.std.specs.declared.alloc.Global.{Global}
use Rattle.sweep_plan.specs.Sweep.{Sweep}
use Rattle.sweep_plan.specs.declared.seeds.Seeds.{Seeds}
use Rattle.shards.specs.Shards.{whole}
use Rattle.shard_merge.specs.Reasons.{BeginsAs, IsTextAt}
use Rattle.table_merge.specs.Seeds.{with_seeds}
use Rattle.table_merge.specs.declared.finding.Found.{Found}
use Rattle.figures.specs.declared.column_set.ColumnSet.{ColumnSet}

-- the text begins as the table of a sweep with these seeds
abbrev pub BeginsAsTable : List ℕ → List ℕ → ColumnSet → Sweep → Seeds → Type 0
BeginsAsTable text mark columns sweep r = BeginsAs text mark columns (with_seeds sweep r) whole

-- the text at this place does
pub record IsTableAt (texts : List (Vec ℕ Global)) (mark : List ℕ) (columns : ColumnSet) (sweep : Sweep) (place : ℕ) (r : Seeds) : Type 0 where
  pub text : List ℕ
  pub there : IsTextAt texts place text
  pub begins : BeginsAsTable text mark columns sweep r

-- both ranges have a seed
pub record ShareSeed (a b : Seeds) : Type 0 where
  pub seed : ℕ
  pub first_low : a.first ≤ seed
  pub first_high : seed ≤ a.last
  pub second_low : b.first ≤ seed
  pub second_high : seed ≤ b.last

-- each table begins past the last seed of the one before it, and none before a seed
abbrev pub AreApart : ℕ → List Found → Type 0
AreApart from [] = Unit {0}
AreApart from (f ∷ more) = (from ≤ f.seeds.first) × (f.seeds.first ≤ f.seeds.last) × AreApart (f.seeds.last + 1) more

-- a table that was found among the first texts, so many
pub record IsFound (texts : List (Vec ℕ Global)) (mark : List ℕ) (columns : ColumnSet) (sweep : Sweep) (till : ℕ) (f : Found) : Type 0 where
  pub before : f.place < till
  pub table : IsTableAt texts mark columns sweep f.place f.seeds

-- one of the tables has these seeds
abbrev pub HaveRange : List Found → Seeds → Type 0
HaveRange tables r = (f : Found) × Contains tables f × (f.seeds ≡ r)

-- the tables, in the order of their seeds, that the first texts are, so many
pub record AreFound (texts : List (Vec ℕ Global)) (mark : List ℕ) (columns : ColumnSet) (sweep : Sweep) (tables : List Found) (till : ℕ) : Type 0 where
  pub as_many : length tables ≡ till
  pub each : All (IsFound texts mark columns sweep till) tables
  pub apart : AreApart 0 tables
  pub kept : (place : ℕ) (r : Seeds) → place < till → IsTableAt texts mark columns sweep place r → HaveRange tables r

-- the first text is the table of a sweep with these seeds, and there are others
pub record AreSeveral (texts : List (Vec ℕ Global)) (mark : List ℕ) (columns : ColumnSet) (sweep : Sweep) (r : Seeds) : Type 0 where
  pub first : IsTableAt texts mark columns sweep 0 r
  pub more : 2 ≤ length texts

-- with some seeds, of some sweep
pub record HaveSeeds (texts : List (Vec ℕ Global)) : Type 0 where
  pub mark : List ℕ
  pub columns : ColumnSet
  pub sweep : Sweep
  pub seeds : Seeds
  pub are : AreSeveral texts mark columns sweep seeds
