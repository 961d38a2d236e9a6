-- The lines of settings that have as many runs as are enough.
use Rattle.std.specs.Prelude.{◌≡◌, ◌≤◌, ◌*◌, ℕ, List, [], ◌∷◌, ◌++◌, All}
use Rattle.std.specs.List.{AllZip, flat_map, range_with_len}
use Rattle.sweep_plan.specs.Sweep.{Sweep, seed_count}
use Rattle.figures.specs.Settings.{IsSummaryOf}
use Rattle.figures.specs.declared.summary.SettingSummary.{SettingSummary}
use Rattle.sweep.specs.Sums.{AreLinesOf}
use Rattle.sweep.specs.declared.summing.LineKey.{LineKey}
use Rattle.sweep_until.specs.Kept.{AreKept}
use Rattle.sweep_until.specs.Until.{AreEnough}
use Rattle.sweep_until.specs.declared.runs.SettingRuns.{SettingRuns}
use Rattle.table_rows.specs.Items.{BeginsWith, IsAllOf}
use Rattle.table_rows.specs.Lines.{Line, IsLine, notes_of, shard_line}

-- the lines of a setting: of as many runs as are enough
pub record IsSetting (width each : ℕ) (lines : List Line) : Type 0 where
  pub sound : All IsLine lines
  pub enough : AreEnough width each (notes_of lines)

-- a setting as it stands in a table
abbrev pub shard_setting : List Line → List ℕ
shard_setting lines = flat_map shard_line lines

-- the summary of a setting's lines
abbrev pub SumsUpLines : List Line → SettingSummary → Type 0
SumsUpLines lines setting = IsSummaryOf setting (notes_of lines)

-- the text begins with a whole setting, whatever is left
abbrev pub HasSetting : ℕ → ℕ → List ℕ → Type 0
HasSetting width each text = (left : List ℕ) × BeginsWith (IsSetting width each) shard_setting text left

-- it begins with one, this is left, and its notes are kept
pub record ReadsSetting (width each : ℕ) (text left : List ℕ) (kept : SettingRuns) : Type 0 where
  pub begins : BeginsWith (IsSetting width each) shard_setting text left
  pub noted : AreKept (notes_of begins.one) kept

-- it does, and its summary comes behind the others
pub record SumsUpSetting (width each : ℕ) (text left : List ℕ) (before after : List SettingSummary) : Type 0 where
  pub begins : BeginsWith (IsSetting width each) shard_setting text left
  pub summary : SettingSummary
  pub summed : SumsUpLines begins.one summary
  pub added : after ≡ before ++ summary ∷ []

-- the text is so many settings
abbrev pub AreSettings : ℕ → ℕ → List ℕ → ℕ → Type 0
AreSettings width each text count = IsAllOf (IsSetting width each) shard_setting text count

-- and their summaries come behind the others
pub record ReadsSettings (width each : ℕ) (text : List ℕ) (count : ℕ) (before after : List SettingSummary) : Type 0 where
  pub are : AreSettings width each text count
  pub summaries : List SettingSummary
  pub summed : AllZip SumsUpLines are.items summaries
  pub added : after ≡ before ++ summaries

-- ---- settings whose lines are those of the runs at their places

-- The lines of the setting of this number of a sweep with this key: each is genuine at its place.
pub record IsSettingOf (key : LineKey) (sweep : Sweep) (width number : ℕ) (lines : List Line) : Type 0 where
  pub setting : IsSetting width (seed_count sweep.seeds) lines
  pub count : ℕ
  pub few : count ≤ seed_count sweep.seeds
  pub placed : AreLinesOf key sweep (number * seed_count sweep.seeds) (shard_setting lines) count

-- the text begins with that setting, whatever is left
abbrev pub HasSettingOf : LineKey → Sweep → ℕ → ℕ → List ℕ → Type 0
HasSettingOf key sweep width number text = (left : List ℕ) × BeginsWith (IsSettingOf key sweep width number) shard_setting text left

-- it begins with so many settings, from that of a number on, and this is left
pub record BeginsWithSettings (key : LineKey) (sweep : Sweep) (width first : ℕ) (text left : List ℕ) (count : ℕ) : Type 0 where
  pub settings : List (List Line)
  pub are : AllZip (IsSettingOf key sweep width) (range_with_len first count) settings
  pub written : text ≡ flat_map shard_setting settings ++ left

-- it is these settings
abbrev pub AreSettingsOf : LineKey → Sweep → ℕ → ℕ → List ℕ → ℕ → Type 0
AreSettingsOf key sweep width first text count = BeginsWithSettings key sweep width first text [] count
