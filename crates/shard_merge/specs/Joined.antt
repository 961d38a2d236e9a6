-- What shards put together are.
use Rattle.std.specs.Prelude.{◌≡◌, ◌==◌, ◌*◌, ◌/◌, ◌≤◌, ℕ, false, List, ◌++◌, Option, Some, None, All, Vec, length}
use Rattle.std.specs.List.{AllZip, flat_map}
use Rattle.std.specs.Io.KnownBytes.{Appends}
use Rattle.std.specs.declared.alloc.Global.{Global}
use Rattle.sweep_plan.specs.Sweep.{Sweep, setting_count, run_count, seed_count}
use Rattle.figures.specs.declared.column_set.ColumnSet.{ColumnSet}
use Rattle.figures.specs.declared.summary.SettingSummary.{SettingSummary}
use Rattle.shards.specs.declared.shard.Shard.{Shard}
use Rattle.shards.specs.Shards.{IsShard, whole}
use Rattle.sweep.specs.Runs.{IsAskedFor}
use Rattle.sweep.specs.Summaries.{SumUp, IsGathered}
use Rattle.sweep.specs.Shards.{shard_header}
use Rattle.sweep.specs.Sums.{AreLinesOf, HasLineOf, line_key}
use Rattle.sweep.specs.declared.summing.LineKey.{LineKey}
use Rattle.table_rows.specs.Lines.{Line, IsLine, shard_line, notes_of}
use Rattle.table_rows.specs.Settings.{AreSettingsOf, IsSetting, SumsUpLines, shard_setting}
use Rattle.shard_merge.specs.Among.{IsAmongTexts, shard_at}
use Rattle.shard_merge.specs.Behind.{ReadsBehind, share_of}
use Rattle.shard_merge.specs.declared.settings_read.SettingsRead.{SettingsRead}

-- the mark of a scenario's text has no space and no quote
pub record IsMark (mark : List ℕ) : Type 0 where
  pub spaceless : All (λ byte. (byte == 32) ≡ false) mark
  pub quoteless : All (λ byte. (byte == 34) ≡ false) mark

-- The line of the sweep's first run has this seed: it stands behind the first line of a shard, one of so many, that is among the texts, and is genuine with it.
pub record IsFirstSeed (texts : List (Vec ℕ Global)) (mark : List ℕ) (columns : ColumnSet) (sweep : Sweep) (of seed : ℕ) : Type 0 where
  pub p : Shard
  pub sound : IsShard p
  pub one : p.of ≡ of
  pub body : List ℕ
  pub there : IsAmongTexts texts (shard_header columns mark sweep p ++ body)
  pub line : HasLineOf (line_key columns (Some seed) mark sweep) sweep 0 body

-- ---- while shards are put together

-- The shard of this number is one of the texts, and what stands behind its first line was read and put. Its runs have this seed, unless others are asked for.
pub record JoinsShard (until : Option ℕ) (texts : List (Vec ℕ Global)) (mark : List ℕ) (columns : ColumnSet) (seed : ℕ) (sweep : Sweep) (of number : ℕ) (old new : Option (List ℕ))
    (before after : SettingsRead) : Type 0 where
  pub body : List ℕ
  pub there : IsAmongTexts texts (shard_header columns mark sweep (shard_at number of) ++ body)
  pub read : ReadsBehind until (line_key columns (Some seed) mark sweep) sweep (shard_at number of) body before after
  pub put : Appends old new body

-- The first shards, so many, are among the texts: behind the first line of each stands its share of these things, of which there are so many in the whole.
-- All of them were put, and this holds of them.
pub record JoinsThings {X : Type 0} (Sound : X → Type 0) (text_of : X → List ℕ) (total : ℕ) (Holds : List X → Type 0) (texts : List (Vec ℕ Global)) (mark : List ℕ)
    (columns : ColumnSet) (sweep : Sweep) (of count : ℕ) (old new : Option (List ℕ)) : Type 0 where
  pub things : List X
  pub many : length things ≡ count * total / of
  pub sound : All Sound things
  pub there : (p : Shard) → IsShard p → p.of ≡ of → p.number ≤ count → IsAmongTexts texts (shard_header columns mark sweep p ++ flat_map text_of (share_of total p things))
  pub put : Appends old new (flat_map text_of things)
  pub holds : Holds things

-- lines are those of the first runs of a sweep, each genuine at its place, or of its first settings
abbrev pub ArePlaced : LineKey → Sweep → List Line → Type 0
ArePlaced key sweep lines = AreLinesOf key sweep 0 (flat_map shard_line lines) (length lines)

abbrev pub ArePlacedSettings : LineKey → Sweep → ℕ → List (List Line) → Type 0
ArePlacedSettings key sweep width own = AreSettingsOf key sweep width 0 (flat_map shard_setting own) (length own)

-- things are the lines of runs, whose notes are gathered, or settings of as many runs as are enough, which are summed up
abbrev pub JoinsShards : Option ℕ → List (Vec ℕ Global) → List ℕ → ColumnSet → ℕ → Sweep → ℕ → ℕ → Option (List ℕ) → Option (List ℕ) → SettingsRead → Type 0
JoinsShards None texts mark columns seed sweep of count old new so_far =
    JoinsThings IsLine shard_line (run_count sweep) (λ lines. IsGathered (seed_count sweep.seeds) (notes_of lines) so_far.gathering × ArePlaced (line_key columns (Some seed) mark sweep) sweep lines) texts mark columns sweep of count old new
JoinsShards (Some width) texts mark columns seed sweep of count old new so_far =
    JoinsThings (IsSetting width (seed_count sweep.seeds)) shard_setting (setting_count sweep.swept_keys) (λ own. AllZip SumsUpLines own so_far.settings.items × ArePlacedSettings (line_key columns (Some seed) mark sweep) sweep width own) texts mark columns sweep of
    count old new

-- ---- all shards

-- behind the first line of each shard stands its share of these things, so many, of which this holds
pub record AreShared {X : Type 0} (Sound : X → Type 0) (text_of : X → List ℕ) (total : ℕ) (Holds : List X → Type 0) (body : Shard → List ℕ) : Type 0 where
  pub things : List X
  pub many : length things ≡ total
  pub sound : All Sound things
  pub behind : (p : Shard) → IsShard p → body p ≡ flat_map text_of (share_of total p things)
  pub holds : Holds things

-- the shards of a sweep that has a width, or none, whatever their number, and the summaries of its settings
abbrev pub AreOf : Option ℕ → LineKey → Sweep → (Shard → List ℕ) → List SettingSummary → Type 0
AreOf None key sweep body settings =
    AreShared IsLine shard_line (run_count sweep) (λ lines. SumUp (seed_count sweep.seeds) (notes_of lines) settings × ArePlaced key sweep lines) body
AreOf (Some width) key sweep body settings =
    AreShared (IsSetting width (seed_count sweep.seeds)) shard_setting (setting_count sweep.swept_keys) (λ own. AllZip SumsUpLines own settings × ArePlacedSettings key sweep width own) body

-- The texts have all shards of the sweep, of so many: each is one of them. What stands behind the first line of its only shard was put behind this front,
-- and there is a summary for each setting. All runs have this seed, unless others are asked for.
pub record JoinsBehind (front : List ℕ) (texts : List (Vec ℕ Global)) (mark : List ℕ) (columns : ColumnSet) (seed : ℕ) (sweep : Sweep) (of : ℕ) (old new : Option (List ℕ))
    (until : Option ℕ) (settings : List SettingSummary) : Type 0 where
  pub body : Shard → List ℕ
  pub there : (p : Shard) → IsShard p → p.of ≡ of → IsAmongTexts texts (shard_header columns mark sweep p ++ body p)
  pub written : Appends old new (front ++ body whole)
  pub each : length settings ≡ setting_count sweep.swept_keys
  pub are : AreOf until (line_key columns (Some seed) mark sweep) sweep body settings

-- The texts have all shards of this sweep, whose tables have these columns. Its only shard was appended, which is the table of the whole, and these are
-- the summaries of its settings. There is one seed that all runs have, unless others are asked for.
pub record Joins (texts : List (Vec ℕ Global)) (old new : Option (List ℕ)) (sweep : Sweep) (columns : ColumnSet) (settings : List SettingSummary) : Type 0 where
  pub asked : IsAskedFor sweep
  pub mark : List ℕ
  pub marked : IsMark mark
  pub of : ℕ
  pub some : 1 ≤ of
  pub few : of ≤ 10000
  pub seed : ℕ
  pub put : JoinsBehind (shard_header columns mark sweep whole) texts mark columns seed sweep of old new sweep.until settings
