-- The settings of a sweep, each with the summary of its runs.
use Rattle.std.specs.Prelude.{◌≡◌, ◌≤◌, ℕ, ◌*◌, Option, Some, List, length, map, take, drop, slice_get}
use Rattle.toml.specs.Data.{Data}
use Rattle.sweep_plan.specs.Sweep.{Sweep, setting_count, seed_count}
use Rattle.figures.specs.declared.summary.SettingSummary.{SettingSummary}
use Rattle.figures.specs.Notes.{Note}
use Rattle.figures.specs.Settings.{IsSummaryOf}
use Rattle.figures.specs.Kept.{AreFiguresOf}
use Rattle.sweep.specs.declared.gathering.Gathering.{Gathering}
use Rattle.shards.specs.declared.shard.Shard.{Shard}
use Rattle.shards.specs.Shards.{whole}
use Rattle.sweep.specs.Runs.{noted}
use Rattle.sweep.specs.Table.{Course, HasLines}
use Rattle.sweep.specs.Shards.{WritesRest}

-- The notes of the runs of the setting of this number, counted from 0, among those of all runs: each setting has so many, and they follow
-- one another.
abbrev pub runs_of_setting : ℕ → List Note → ℕ → List Note
runs_of_setting each notes number = take each (drop (number * each) notes)

-- these are summaries of the first settings, in order
abbrev pub SumUp : ℕ → List Note → List SettingSummary → Type 0
SumUp each notes settings = (number : ℕ) (summary : SettingSummary) → slice_get settings number ≡ Some summary → IsSummaryOf summary (runs_of_setting each notes number)

-- what comes behind so many bytes of a shard's table was appended, and this is kept of the runs whose lines these are
pub record MakesRest (tree : Data) (mark : List ℕ) (sweep : Sweep) (p : Shard) (kept runs : ℕ) (old new : Option (List ℕ)) (HasGathered : List Note → Type 0) : Type 0 where
  pub writes : WritesRest tree mark sweep p kept runs old new
  pub gathered : HasGathered (map noted writes.made)

-- all runs were made: the table of the only shard was appended, and each setting is summed up
pub record MakesAll (tree : Data) (mark : List ℕ) (sweep : Sweep) (old new : Option (List ℕ)) (settings : List SettingSummary) : Type 0 where
  pub makes : MakesRest tree mark sweep whole 0 0 old new (λ notes. SumUp (seed_count sweep.seeds) notes settings)
  pub all : length settings ≡ setting_count sweep.swept_keys

-- What is kept of the runs so far, of which these are the notes, and of which each setting has so many: the summaries of the settings that are
-- through, and the figures of the setting that isn't.
pub record IsGathered (each : ℕ) (notes : List Note) (gathering : Gathering) : Type 0 where
  pub size : gathering.each ≡ each
  pub through : length gathering.summaries.items * each ≤ length notes
  pub summed : SumUp each notes gathering.summaries.items
  pub kept : AreFiguresOf gathering.figures (drop (length gathering.summaries.items * each) notes)

-- the summaries of the settings that are through
abbrev pub summaries_in : Gathering → List SettingSummary
summaries_in gathering = gathering.summaries.items

-- the lines of the runs to before this number were appended, and their notes are gathered
pub record HasCome (tree : Data) (sweep : Sweep) (course : Course) (held : Option (List ℕ)) (HasGathered : List Note → Type 0) (number : ℕ) : Type 0 where
  pub lines : HasLines tree sweep course held number
  pub gathered : HasGathered (map noted lines.made)
