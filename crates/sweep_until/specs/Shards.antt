-- The table of a shard of a sweep whose settings have as many runs as their intervals need, or what comes behind what was written of it before. A shard is one
-- of whole settings; a whole sweep is its only shard, with nothing written before.
use Rattle.std.specs.Prelude.{◌≡◌, ◌≤◌, ◌<◌, ◌⊎◌, ℕ, ◌+◌, ◌-◌, List, [], Option, Some, drop, length}
use Rattle.std.specs.Io.KnownBytes.{Appends}
use Rattle.toml.specs.Data.{Data}
use Rattle.trace.specs.Sinks.{AppendsBeginning}
use Rattle.figures.specs.Notes.{Note}
use Rattle.figures.specs.declared.summary.SettingSummary.{SettingSummary}
use Rattle.sweep_plan.specs.Sweep.{Sweep, setting_count, seed_count}
use Rattle.shards.specs.declared.shard.Shard.{Shard}
use Rattle.shards.specs.Shards.{first_run, past_run, whole}
use Rattle.sweep.specs.Runs.{Made}
use Rattle.sweep.specs.Sums.{sweep_key}
use Rattle.sweep.specs.Table.{columns_of}
use Rattle.sweep.specs.Shards.{rest_text, shard_header}
use Rattle.sweep_until.specs.Until.{AreMadeBehind, AreTooFew, BeginsSettings, HasSettings, Stretch, all_of}

-- the number of its first setting, and how many it has: settings are shared out as runs are
abbrev pub first_setting : Sweep → Shard → ℕ
first_setting sweep p = first_run p (setting_count sweep.swept_keys)

abbrev pub settings_in : Sweep → Shard → ℕ
settings_in sweep p = past_run p (setting_count sweep.swept_keys) - first_run p (setting_count sweep.swept_keys)

-- So many bytes of a shard stay, with so many whole settings and these runs of the next one, which are too few; runs only where there is a next one, behind
-- the whole first line.
pub record CanGoOn (sweep : Sweep) (p : Shard) (header : List ℕ) (kept settings : ℕ) (before : List Note) : Type 0 where
  pub few : settings ≤ settings_in sweep p
  pub there : (before ≡ []) ⊎ ((settings < settings_in sweep p) × (length header ≤ kept))
  pub open_yet : (width : ℕ) → sweep.until ≡ Some width → AreTooFew width (seed_count sweep.seeds) before

-- The settings of the shard but for so many, the first: they come behind so many bytes that were written before, and what these lack of its first line.
abbrev pub rest_settings : Data → List ℕ → Sweep → Shard → ℕ → ℕ → Stretch
rest_settings tree mark sweep p kept settings = record {
  key = sweep_key mark sweep;
  front = drop kept (shard_header (columns_of tree) mark sweep p);
  first = first_setting sweep p + settings;
  settings = settings_in sweep p - settings;
}

-- these are their runs, but for those that were made before of the first one
abbrev pub AreSettingsBehind : Data → Sweep → ℕ → Shard → ℕ → List Note → List (List Made) → Type 0
AreSettingsBehind tree sweep width p settings before made = AreMadeBehind tree sweep width (first_setting sweep p + settings) (settings_in sweep p - settings) before made

-- what the bytes lack of the first line, and the lines of the runs that were left, were appended
pub record WritesRestUntil (tree : Data) (mark : List ℕ) (sweep : Sweep) (p : Shard) (kept settings : ℕ) (before : List Note) (old new : Option (List ℕ)) : Type 0 where
  pub width : ℕ
  pub wanted : sweep.until ≡ Some width
  pub made : List (List Made)
  pub are : AreSettingsBehind tree sweep width p settings before made
  pub written : Appends old new (rest_text (columns_of tree) mark sweep p kept (all_of made))

-- a beginning of that was
pub record BeginsRestUntil (tree : Data) (mark : List ℕ) (sweep : Sweep) (p : Shard) (kept settings : ℕ) (before : List Note) (old new : Option (List ℕ)) : Type 0 where
  pub width : ℕ
  pub wanted : sweep.until ≡ Some width
  pub made : List (List Made)
  pub are : AreSettingsBehind tree sweep width p settings before made
  pub written : AppendsBeginning old new (rest_text (columns_of tree) mark sweep p kept (all_of made))

-- all settings were made: those of the only shard, whose table was appended, and each is summed up
abbrev pub MakesUntil : Data → List ℕ → Sweep → ℕ → Option (List ℕ) → Option (List ℕ) → List SettingSummary → Type 0
MakesUntil tree mark sweep width old new settings = HasSettings tree sweep width (rest_settings tree mark sweep whole 0 0) old new (settings_in sweep whole - 0) settings

-- a beginning of its table was appended
abbrev pub BeginsUntil : Data → List ℕ → Sweep → ℕ → Option (List ℕ) → Option (List ℕ) → Type 0
BeginsUntil tree mark sweep width old new = BeginsSettings tree sweep width (rest_settings tree mark sweep whole 0 0) old new
