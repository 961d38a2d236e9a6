-- What stands of the table of a shard whose settings have as many runs as are enough, where it was cut off.
use Rattle.std.specs.Prelude.{◌≡◌, ◌≤◌, ◌<◌, ◌⊎◌, ◌+◌, ℕ, List, [], ◌++◌, length}
use Rattle.figures.specs.Notes.{Note}
use Rattle.table_rows.specs.Open.{BeginsWithOpen}
use Rattle.std.specs.Str.{IsValidUpTo}
use Rattle.sweep_plan.specs.Sweep.{Sweep}
use Rattle.table_rows.specs.Settings.{BeginsWithSettings}
use Rattle.shards.specs.declared.shard.Shard.{Shard}
use Rattle.sweep.specs.Shards.{shard_header}
use Rattle.sweep.specs.Resumed.{IsShort, RefusesStart}
use Rattle.sweep.specs.Sums.{key_of_text}
use Rattle.sweep.specs.Table.{columns_of}
use Rattle.sweep.specs.declared.summing.LineKey.{LineKey}
use Rattle.toml.specs.Data.{Data}
use Rattle.sweep.specs.declared.begun.BegunFault.{BegunFault}
use Rattle.sweep_until.specs.Shards.{settings_in, first_setting}

-- the beginning of a text that is UTF-8: all of it, or the longest there is
pub record IsRead (text front unread : List ℕ) : Type 0 where
  pub written : text ≡ front ++ unread
  pub longest : (unread ≡ []) ⊎ IsValidUpTo text (length front)

-- behind so many settings, which aren't all, come the lines of the next one, which needs more runs; behind all nothing counts
abbrev pub AreLinesBehind : LineKey → Sweep → ℕ → ℕ → ℕ → ℕ → List ℕ → List ℕ → List Note → Type 0
AreLinesBehind key sweep width first most settings left after before =
    ((settings ≡ most) × (before ≡ []) × (after ≡ left)) ⊎ ((settings < most) × BeginsWithOpen key sweep width (first + settings) left after before)

-- Behind the first line come those of so many whole settings, from that of a number on, and no more of them than so many, and behind these those of the next
-- one, which has this metadata: the first bytes of the text, up to what is left.
pub record AreSettingsBehind (key : LineKey) (sweep : Sweep) (width first most : ℕ) (header text : List ℕ) (kept settings : ℕ) (before : List Note) : Type 0 where
  pub rest : List ℕ
  pub written : text ≡ header ++ rest
  pub front : List ℕ
  pub unread : List ℕ
  pub read : IsRead rest front unread
  pub left : List ℕ
  pub begins : BeginsWithSettings key sweep width first front left settings
  pub after : List ℕ
  pub started : AreLinesBehind key sweep width first most settings left after before
  pub stay : kept + length (after ++ unread) ≡ length text

-- So much of the table of a shard stands in the text: so many bytes stay, with the lines of so many whole settings, and of the next one those with this metadata.
-- Each line is genuine at its place. They are all such lines with which the text goes on behind its first line.
pub record IsBegunSettings (tree : Data) (mark : List ℕ) (sweep : Sweep) (width : ℕ) (p : Shard) (text : List ℕ) (kept settings : ℕ) (before : List Note) : Type 0 where
  pub stands : (IsShort (shard_header (columns_of tree) mark sweep p) text kept settings × (before ≡ []))
      ⊎ AreSettingsBehind (key_of_text tree mark sweep) sweep width (first_setting sweep p) (settings_in sweep p) (shard_header (columns_of tree) mark sweep p) text kept settings before
  pub few : settings ≤ settings_in sweep p

-- why nothing of the table stands in the text, unless memory was refused
abbrev pub RefusesBegunSettings : Data → List ℕ → Sweep → Shard → List ℕ → BegunFault → Type 0
RefusesBegunSettings tree mark sweep p text fault = RefusesStart (shard_header (columns_of tree) mark sweep p) text fault
