-- Why texts aren't put together.
use Rattle.std.specs.Prelude.{◌≡◌, ◌⊎◌, ◌≤◌, ◌<◌, ◌+◌, ℕ, List, Vec}
use Rattle.std.specs.Str.{IsUtf8}
use Rattle.std.specs.List.{Contains}
use Rattle.std.specs.declared.alloc.Global.{Global}
use Rattle.sweep_plan.specs.Sweep.{Sweep, run_count}
use Rattle.sweep_plan.specs.declared.seeds.Seeds.{Seeds}
use Rattle.shard_merge.specs.Reasons.{BeginsAsNone, IsNoShard, IsOther, IsTextAt}
use Rattle.shard_merge.specs.Reasons.{IsReason as IsShardsReason}
use Rattle.shard_merge.specs.declared.fault.JoinFault.{JoinFault}
use Rattle.shard_merge.specs.declared.fault.JoinFault.TheVariants as shards
use Rattle.table_merge.specs.Seeds.{with_seeds}
use Rattle.table_merge.specs.Found.{AreSeveral, BeginsAsTable, HaveSeeds, IsTableAt, ShareSeed}
use Rattle.table_merge.specs.declared.fault.MergeFault.{MergeFault}
use Rattle.table_merge.specs.declared.fault.MergeFault.TheVariants as fault
use Rattle.table_merge.specs.declared.finding.Found.{Found}
use Rattle.figures.specs.declared.column_set.ColumnSet.{ColumnSet}

-- the first of several texts is a table with seeds, and the one at this place begins as no table of that sweep, whatever its seeds
pub record IsOtherTable (texts : List (Vec ℕ Global)) (place : ℕ) : Type 0 where
  pub mark : List ℕ
  pub columns : ColumnSet
  pub sweep : Sweep
  pub seeds : Seeds
  pub are : AreSeveral texts mark columns sweep seeds
  pub text : List ℕ
  pub there : IsTextAt texts place text
  pub none : (r : Seeds) → ¬ (BeginsAsTable text mark columns sweep r)

-- the text at a place is a table of the sweep of the first, and has a seed that one before it has, which is at this place
pub record IsOverlap (texts : List (Vec ℕ Global)) (place other : ℕ) : Type 0 where
  pub mark : List ℕ
  pub columns : ColumnSet
  pub sweep : Sweep
  pub seeds : Seeds
  pub are : AreSeveral texts mark columns sweep seeds
  pub before : other < place
  pub own : Seeds
  pub own_there : IsTableAt texts mark columns sweep place own
  pub its : Seeds
  pub its_there : IsTableAt texts mark columns sweep other its
  pub shared : ShareSeed its own

-- the tables at these places are of the sweep of the first; past the last seed of the one the other begins, but not next to it, and no table has a seed between
pub record IsGap (texts : List (Vec ℕ Global)) (place other : ℕ) : Type 0 where
  pub mark : List ℕ
  pub columns : ColumnSet
  pub sweep : Sweep
  pub seeds : Seeds
  pub are : AreSeveral texts mark columns sweep seeds
  pub below : Seeds
  pub below_there : IsTableAt texts mark columns sweep place below
  pub above : Seeds
  pub above_there : IsTableAt texts mark columns sweep other above
  pub apart : below.last + 1 < above.first
  pub none : (at : ℕ) (r : Seeds) → IsTableAt texts mark columns sweep at r → (r.last ≤ below.last) ⊎ (above.first ≤ r.first)

-- from the first seed of one table to the last of another there are more runs than a sweep has
pub record IsTooMany (texts : List (Vec ℕ Global)) : Type 0 where
  pub mark : List ℕ
  pub columns : ColumnSet
  pub sweep : Sweep
  pub seeds : Seeds
  pub are : AreSeveral texts mark columns sweep seeds
  pub least : Seeds
  pub at_least : ℕ
  pub least_there : IsTableAt texts mark columns sweep at_least least
  pub greatest : Seeds
  pub at_greatest : ℕ
  pub greatest_there : IsTableAt texts mark columns sweep at_greatest greatest
  pub many : 1000000 < run_count (with_seeds sweep (record { first = least.first; last = greatest.last }))

-- why they aren't the shards of one sweep, or one of them isn't what it is to be
abbrev pub IsOfShards : List (Vec ℕ Global) → JoinFault → Type 0
IsOfShards texts (shards.Other place) = (¬ (HaveSeeds texts) × IsOther texts place) ⊎ IsOtherTable texts place
IsOfShards texts (shards.NoShard place) = IsNoShard texts place
IsOfShards texts (shards.Doubled place) = IsShardsReason texts (shards.Doubled place)
IsOfShards texts (shards.Torn place) = IsShardsReason texts (shards.Torn place)
IsOfShards texts (shards.Older place) = IsShardsReason texts (shards.Older place)
IsOfShards texts (shards.Missing number) = IsShardsReason texts (shards.Missing number)
IsOfShards texts shards.Write = Unit {0}
IsOfShards texts shards.Memory = Unit {0}

abbrev pub IsReason : List (Vec ℕ Global) → MergeFault → Type 0
IsReason texts (fault.Shards cause) = IsOfShards texts cause
IsReason texts (fault.Overlap place other) = IsOverlap texts place other
IsReason texts (fault.Gap place other) = IsGap texts place other
IsReason texts fault.TooMany = IsTooMany texts

-- The text of this place is no table of the sweep: it isn't UTF-8 or begins as no shard, or it begins as no table of that, whatever its seeds.
abbrev pub RefusesTable : List ℕ → List ℕ → ColumnSet → Sweep → ℕ → JoinFault → Type 0
RefusesTable text mark columns sweep place (shards.NoShard at) = (at ≡ place) × ((¬ (IsUtf8 text)) ⊎ BeginsAsNone text)
RefusesTable text mark columns sweep place (shards.Other at) = (at ≡ place) × ((r : Seeds) → ¬ (BeginsAsTable text mark columns sweep r))
RefusesTable text mark columns sweep place shards.Memory = Unit {0}
RefusesTable text mark columns sweep place _ = ⊥

-- a table isn't taken in: it shares a seed with one of these, or memory was refused
abbrev pub RefusesIn : List Found → Found → MergeFault → Type 0
RefusesIn tables f (fault.Overlap place other) = (place ≡ f.place) × ((g : Found) × Contains tables g × (other ≡ g.place) × ShareSeed g.seeds f.seeds)
RefusesIn tables f (fault.Shards cause) = cause ≡ shards.Memory
RefusesIn tables f _ = ⊥

-- tables leave a gap: the second of these begins past the last seed of the first, but not next to it, and each other ends before, or begins behind
pub record LeaveGap (tables : List Found) (place other : ℕ) : Type 0 where
  pub below : Found
  pub below_in : Contains tables below
  pub below_at : below.place ≡ place
  pub above : Found
  pub above_in : Contains tables above
  pub above_at : above.place ≡ other
  pub apart : below.seeds.last + 1 < above.seeds.first
  pub none : (f : Found) → Contains tables f → (f.seeds.last ≤ below.seeds.last) ⊎ (above.seeds.first ≤ f.seeds.first)

abbrev pub RefusesOrder : List Found → MergeFault → Type 0
RefusesOrder tables (fault.Gap place other) = LeaveGap tables place other
RefusesOrder tables _ = ⊥
