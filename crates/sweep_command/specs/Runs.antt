-- The runs that a sweep makes, and the summaries of its settings: each setting with each seed; or, where the words say how wide its interval may be, with
-- as few as make it no wider. A shard goes on behind what stands of its table; a whole sweep is its only shard, of which nothing stands.
use Rattle.std.specs.Prelude.{◌≡◌, ◌≤◌, ◌+◌, ℕ, Option, Some, None, List, [], length, map}
use Rattle.std.specs.List.{AllZip}
use Rattle.std.specs.Io.KnownBytes.{Appends}
use Rattle.toml.specs.Data.{Data}
use Rattle.trace.specs.Sinks.{AppendsBeginning}
use Rattle.sweep_plan.specs.Sweep.{Sweep, setting_count, run_count, seed_count}
use Rattle.figures.specs.declared.summary.SettingSummary.{SettingSummary}
use Rattle.figures.specs.Notes.{Note}
use Rattle.shards.specs.declared.shard.Shard.{Shard}
use Rattle.shards.specs.Shards.{first_run, past_run, whole}
use Rattle.sweep.specs.Runs.{Made, noted}
use Rattle.sweep.specs.Summaries.{SumUp}
use Rattle.sweep.specs.Table.{columns_of}
use Rattle.sweep.specs.Shards.{AreMadeBehind, rest_text}
use Rattle.sweep.specs.Resumed.{IsBegun, RefusesBegun}
use Rattle.sweep.specs.declared.begun.BegunFault.{BegunFault}
use Rattle.table_rows.specs.Begun.{IsBegunSettings, RefusesBegunSettings}
use Rattle.sweep_until.specs.Shards.{AreSettingsBehind, CanGoOn}
use Rattle.sweep_until.specs.Until.{SumsUp, all_of}

-- how runs are listed: all of them in one list; with a width, those of each setting in a list of their own
abbrev pub RunsBy : Option ℕ → Type 0
RunsBy None = List Made
RunsBy (Some width) = List (List Made)

-- they one after the other
abbrev pub listed : (until : Option ℕ) → RunsBy until → List Made
listed None made = made
listed (Some width) made = all_of made

-- Of which runs lines stand in a table: of so many runs; with a width, of so many whole settings, and of the runs of the next one with this metadata.
pub record Standing : Type 0 where
  pub count : ℕ
  pub before : List Note

abbrev pub standing : ℕ → List Note → Standing
standing count before = record { count = count; before = before }

abbrev pub nothing : Standing
nothing = standing 0 []

-- These are the runs of the shard but for those; with a width it is one of whole settings, each with as few as make its interval no wider, all where none do.
abbrev pub AreRunsBehind : (until : Option ℕ) → Data → Sweep → Shard → Standing → RunsBy until → Type 0
AreRunsBehind None tree plan p stands made = AreMadeBehind tree plan p stands.count made
AreRunsBehind (Some width) tree plan p stands made = AreSettingsBehind tree plan width p stands.count stands.before made

-- what comes behind so many bytes of the table of the shard: what they lack of its first line, and the lines of these runs
abbrev pub rest_table : (until : Option ℕ) → Data → List ℕ → Sweep → Shard → ℕ → RunsBy until → List ℕ
rest_table until tree mark plan p kept made = rest_text (columns_of tree) mark plan p kept (listed until made)

-- the runs of the shard that were left were made: that was appended
pub record WritesRuns (until : Option ℕ) (tree : Data) (mark : List ℕ) (plan : Sweep) (p : Shard) (kept : ℕ) (stands : Standing) (old new : Option (List ℕ)) : Type 0 where
  pub made : RunsBy until
  pub are : AreRunsBehind until tree plan p stands made
  pub written : Appends old new (rest_table until tree mark plan p kept made)

-- a beginning of it was
pub record BeginsRuns (until : Option ℕ) (tree : Data) (mark : List ℕ) (plan : Sweep) (p : Shard) (kept : ℕ) (stands : Standing) (old new : Option (List ℕ)) : Type 0 where
  pub made : RunsBy until
  pub are : AreRunsBehind until tree plan p stands made
  pub written : AppendsBeginning old new (rest_table until tree mark plan p kept made)

-- ---- a whole sweep

-- these are all its runs, and this is their table
abbrev pub AreRuns : (until : Option ℕ) → Data → Sweep → RunsBy until → Type 0
AreRuns until tree plan made = AreRunsBehind until tree plan whole nothing made

abbrev pub runs_table : (until : Option ℕ) → Data → List ℕ → Sweep → RunsBy until → List ℕ
runs_table until tree mark plan made = rest_table until tree mark plan whole 0 made

-- these are summaries of the settings that they belong to, in order
abbrev pub AreSummedUp : (until : Option ℕ) → Sweep → RunsBy until → List SettingSummary → Type 0
AreSummedUp None plan made settings = SumUp (seed_count plan.seeds) (map noted made) settings
AreSummedUp (Some width) plan made settings = AllZip SumsUp made settings

-- all of them were made: their table was appended, and each setting is summed up
pub record MakesRuns (until : Option ℕ) (tree : Data) (mark : List ℕ) (plan : Sweep) (old new : Option (List ℕ)) (settings : List SettingSummary) : Type 0 where
  pub made : RunsBy until
  pub are : AreRuns until tree plan made
  pub written : Appends old new (runs_table until tree mark plan made)
  pub all : length settings ≡ setting_count plan.swept_keys
  pub summed : AreSummedUp until plan made settings

-- a beginning of that table was appended
abbrev pub BeginsAllRuns : (until : Option ℕ) → Data → List ℕ → Sweep → Option (List ℕ) → Option (List ℕ) → Type 0
BeginsAllRuns until tree mark plan old new = BeginsRuns until tree mark plan whole 0 nothing old new

-- ---- what stands of a shard

-- so much of the table of a shard stands in the text: so many bytes stay, with the lines of these runs
abbrev pub AreBegun : Option ℕ → Data → List ℕ → Sweep → Shard → List ℕ → ℕ → Standing → Type 0
AreBegun None tree mark plan p text kept stands = IsBegun tree mark plan p text kept stands.count
AreBegun (Some width) tree mark plan p text kept stands = IsBegunSettings tree mark plan width p text kept stands.count stands.before

-- why the text isn't so, unless memory was refused
abbrev pub RefusesTable : Option ℕ → Data → List ℕ → Sweep → Shard → List ℕ → BegunFault → Type 0
RefusesTable None tree mark plan p text fault = RefusesBegun tree mark plan p text fault
RefusesTable (Some width) tree mark plan p text fault = RefusesBegunSettings tree mark plan p text fault

-- they are no more than the shard has, behind its first line, so that it can go on
abbrev pub FitShard : Option ℕ → Sweep → Shard → List ℕ → ℕ → Standing → Type 0
FitShard None plan p header kept stands = first_run p (run_count plan) + stands.count ≤ past_run p (run_count plan)
FitShard (Some width) plan p header kept stands = CanGoOn plan p header kept stands.count stands.before
