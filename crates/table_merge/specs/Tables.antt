-- Tables that were read, and put together.
use Rattle.std.specs.Prelude.{◌≡◌, ℕ, List, Option, Vec, All, map}
use Rattle.std.specs.Borrow.{Bor}
use Rattle.std.specs.List.{AllZip, flat_map}
use Rattle.std.specs.Io.KnownBytes.{Appends}
use Rattle.std.specs.declared.alloc.Global.{Global}
use Rattle.sweep_plan.specs.Sweep.{Sweep}
use Rattle.figures.specs.declared.column_set.ColumnSet.{ColumnSet}
use Rattle.figures.specs.declared.summary.SettingSummary.{SettingSummary}
use Rattle.sweep.specs.Summaries.{IsGathered, summaries_in}
use Rattle.sweep.specs.declared.gathering.Gathering.{Gathering}
use Rattle.table_rows.specs.Lines.{IsLine, Line, notes_of, shard_line}
use Rattle.table_merge.specs.Seeds.{Ranged}
use Rattle.table_merge.specs.Lines.{BeginsWithIt, resummed}
use Rattle.table_merge.specs.Merged.{IsRangeTable}
use Rattle.table_merge.specs.declared.finding.Found.{Found}
use Rattle.table_merge.specs.declared.lines.Table.{Table}

-- where the lines of a table begin
abbrev pub starts_in : Table → Ranged (List ℕ)
starts_in t = record { seeds = t.seeds; things = map (λ (start : Bor (List ℕ)). start.now) t.starts.items }

-- the lines of a table that was found, and where each of them begins
pub record IsRead (texts : List (Vec ℕ Global)) (mark : List ℕ) (columns : ColumnSet) (sweep : Sweep) (f : Found) (t : Table) : Type 0 where
  pub lines : List Line
  pub same : t.seeds ≡ f.seeds
  pub is : IsRangeTable texts mark columns sweep (record { seeds = f.seeds; things = lines })
  pub begin : AllZip BeginsWithIt (starts_in t).things lines

abbrev pub AreRead : List (Vec ℕ Global) → List ℕ → ColumnSet → Sweep → List Found → List Table → Type 0
AreRead texts mark columns sweep found tables = AllZip (IsRead texts mark columns sweep) found tables

-- lines with which these texts begin were put with their checksums of this key, and these are the summaries of their settings, which have so many each
pub record PutsAll (key : List ℕ) (starts : List (List ℕ)) (each : ℕ) (old new : Option (List ℕ)) (settings : List SettingSummary) : Type 0 where
  pub lines : List Line
  pub sound : All IsLine lines
  pub begin : AllZip BeginsWithIt starts lines
  pub written : Appends old new (flat_map shard_line (map (resummed key) lines))
  pub gathering : Gathering
  pub gathered : IsGathered each (notes_of lines) gathering
  pub summed : settings ≡ summaries_in gathering
