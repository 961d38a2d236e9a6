-- What stands behind the first line of a shard: its runs' lines, or its settings where these have as many runs as are enough.
use Rattle.std.specs.Prelude.{ℕ, ◌-◌, List, ◌++◌, Option, Some, None, take, drop}
use Rattle.sweep_plan.specs.Sweep.{Sweep, setting_count, run_count, seed_count}
use Rattle.figures.specs.Notes.{Note}
use Rattle.figures.specs.declared.summary.SettingSummary.{SettingSummary}
use Rattle.shards.specs.declared.shard.Shard.{Shard}
use Rattle.shards.specs.Shards.{first_run, past_run}
use Rattle.sweep.specs.Sums.{AreLinesOf}
use Rattle.sweep.specs.declared.summing.LineKey.{LineKey}
use Rattle.sweep.specs.Summaries.{IsGathered, summaries_in}
use Rattle.sweep.specs.declared.gathering.Gathering.{Gathering}
use Rattle.table_rows.specs.Lines.{AreLines, ReadsLines}
use Rattle.table_rows.specs.Settings.{AreSettings, AreSettingsOf, ReadsSettings}
use Rattle.shard_merge.specs.declared.settings_read.SettingsRead.{SettingsRead}

-- how many things the shards of a sweep share: its runs, or its settings where it has a width
abbrev pub shared : Option ℕ → Sweep → ℕ
shared None sweep = run_count sweep
shared (Some width) sweep = setting_count sweep.swept_keys

-- how many of so many things the shard has, and which of them these are
abbrev pub share : ℕ → Shard → ℕ
share total p = past_run p total - first_run p total

abbrev pub share_of : {X : Type 0} → ℕ → Shard → List X → List X
share_of total p things = take (share total p) (drop (first_run p total) things)

-- what was gathered before with these notes is gathered then with more
abbrev pub GathersMore : Gathering → Gathering → List Note → Type 0
GathersMore before after more = (each : ℕ) (notes : List Note) → IsGathered each notes before → IsGathered each (notes ++ more) after

-- The text is that of a sweep that has a width, or none: a line for each run of the shard, or its settings. Each line is genuine at its place.
abbrev pub AreBehind : Option ℕ → LineKey → Sweep → Shard → List ℕ → Type 0
AreBehind None key sweep p text =
    AreLines text (share (run_count sweep) p) × AreLinesOf key sweep (first_run p (run_count sweep)) text (share (run_count sweep) p)
AreBehind (Some width) key sweep p text =
    AreSettings width (seed_count sweep.seeds) text (share (setting_count sweep.swept_keys) p)
    × AreSettingsOf key sweep width (first_run p (setting_count sweep.swept_keys)) text (share (setting_count sweep.swept_keys) p)

-- the same, with what was kept before, and is kept then: the notes of the lines are gathered, or the settings summed up
abbrev pub ReadsBehind : Option ℕ → LineKey → Sweep → Shard → List ℕ → SettingsRead → SettingsRead → Type 0
ReadsBehind None key sweep p text before after =
    ReadsLines text (share (run_count sweep) p) (GathersMore before.gathering after.gathering)
    × AreLinesOf key sweep (first_run p (run_count sweep)) text (share (run_count sweep) p)
ReadsBehind (Some width) key sweep p text before after =
    ReadsSettings width (seed_count sweep.seeds) text (share (setting_count sweep.swept_keys) p) before.settings.items after.settings.items
    × AreSettingsOf key sweep width (first_run p (setting_count sweep.swept_keys)) text (share (setting_count sweep.swept_keys) p)

-- the summaries of the settings
abbrev pub summaries_read : Option ℕ → SettingsRead → List SettingSummary
summaries_read None so_far = summaries_in so_far.gathering
summaries_read (Some width) so_far = so_far.settings.items
