-- A sweep whose settings have as many runs as their 95 % intervals need to be narrow enough, and no more.
use Rattle.std.specs.Prelude.{◌≡◌, ◌≤◌, ◌<◌, ◌⊎◌, ℕ, ◌+◌, ◌-◌, ◌*◌, Bool, true, false, List, [], ◌∷◌, ◌++◌, Option, flat_map, length, map, take}
use Rattle.std.specs.List.{AllZip, range_with_len}
use Rattle.std.specs.Io.KnownBytes.{Appends}
use Rattle.toml.specs.Data.{Data}
use Rattle.trace.specs.Sinks.{AppendsBeginning}
use Rattle.sweep_plan.specs.Sweep.{Sweep, seed_count}
use Rattle.figures.specs.declared.summary.SettingSummary.{SettingSummary}
use Rattle.figures.specs.Settings.{IsSummaryOf, runs_with}
use Rattle.figures.specs.Notes.{Note}
use Rattle.sweep.specs.Runs.{Made, AreMadeBetween, noted}
use Rattle.sweep.specs.Table.{Course, BeginsLines, noted_line, columns_of}
use Rattle.sweep.specs.Summaries.{HasCome}
use Rattle.sweep_until.specs.Widths.{is_narrow}
use Rattle.sweep_until.specs.Kept.{AreKept}
use Rattle.sweep_until.specs.declared.runs.SettingRuns.{SettingRuns}

-- the interval of the share of these runs with a false death is at most so many hundredths wide
abbrev pub is_narrow_of : ℕ → List Note → Bool
is_narrow_of width runs = is_narrow width (runs_with runs) (length runs)

-- that of no fewer of them is
abbrev pub IsWide : ℕ → List Note → Type 0
IsWide width runs = (n : ℕ) → n < length runs → is_narrow_of width (take n runs) ≡ false

-- The notes of the runs of a setting: of as few as make its interval narrow enough, or of all, so many, where none do.
pub record AreEnough (width each : ℕ) (runs : List Note) : Type 0 where
  pub few : length runs ≤ each
  pub wide : IsWide width runs
  pub ends : (is_narrow_of width runs ≡ true) ⊎ (length runs ≡ each)

-- The metadata of the first runs of a setting, so few that it needs more.
pub record AreTooFew (width each : ℕ) (runs : List Note) : Type 0 where
  pub few : length runs < each
  pub wide : IsWide width runs
  pub open_yet : is_narrow_of width runs ≡ false

-- The runs of the setting of this number that come behind those which were made before, whose metadata these are: as many as are enough with them.
pub record IsMadeBehind (tree : Data) (sweep : Sweep) (width number : ℕ) (before : List Note) (made : List Made) : Type 0 where
  pub are : AreMadeBetween tree sweep (number * seed_count sweep.seeds + length before) (number * seed_count sweep.seeds + length before + length made) made
  pub enough : AreEnough width (seed_count sweep.seeds) (before ++ map noted made)

-- The runs of the setting of this number: its first ones, as many as are enough.
abbrev pub IsMadeUntil : Data → Sweep → ℕ → ℕ → List Made → Type 0
IsMadeUntil tree sweep width number made = IsMadeBehind tree sweep width number [] made

-- those of so many settings, from that of a number on, in their order
abbrev pub AreMadeFrom : Data → Sweep → ℕ → ℕ → ℕ → List (List Made) → Type 0
AreMadeFrom tree sweep width first settings made = AllZip (IsMadeUntil tree sweep width) (range_with_len first settings) made

-- The runs of so many settings, from that of a number on, where these were made before of the first one: its other runs, and those of the others.
pub record AreMadeWithFirst (tree : Data) (sweep : Sweep) (width first settings : ℕ) (before : List Note) (made : List (List Made)) : Type 0 where
  pub one : List Made
  pub others : List (List Made)
  pub all : made ≡ one ∷ others
  pub some : 0 < settings
  pub open_one : IsMadeBehind tree sweep width first before one
  pub are : AreMadeFrom tree sweep width (first + 1) (settings - 1) others

-- the same where perhaps none were made of it before
abbrev pub AreMadeBehind : Data → Sweep → ℕ → ℕ → ℕ → List Note → List (List Made) → Type 0
AreMadeBehind tree sweep width first settings [] made = AreMadeFrom tree sweep width first settings made
AreMadeBehind tree sweep width first settings (note ∷ notes) made = AreMadeWithFirst tree sweep width first settings (note ∷ notes) made

-- the runs of settings, one setting after the other
abbrev pub all_of : List (List Made) → List Made
all_of made = flat_map (λ setting. setting) made

-- the summary of a setting's runs
abbrev pub SumsUp : List Made → SettingSummary → Type 0
SumsUp made setting = IsSummaryOf setting (map noted made)

-- Which settings are put one after the other: the key of their lines' checksums, what is put ahead of these, the number of the first, and how many they are.
pub record Stretch : Type 0 where
  pub key : List ℕ
  pub front : List ℕ
  pub first : ℕ
  pub settings : ℕ

-- what is put, with the lines of the runs of these settings
abbrev pub stretch_text : Data → Stretch → List (List Made) → List ℕ
stretch_text tree stretch made = stretch.front ++ flat_map (noted_line (columns_of tree) stretch.key) (all_of made)

-- so many settings were made, their lines were appended, and each is summed up
pub record HasSettings (tree : Data) (sweep : Sweep) (width : ℕ) (stretch : Stretch) (old new : Option (List ℕ)) (number : ℕ) (settings : List SettingSummary) : Type 0 where
  pub made : List (List Made)
  pub are : AreMadeFrom tree sweep width stretch.first number made
  pub written : Appends old new (stretch_text tree stretch made)
  pub summed : AllZip SumsUp made settings

-- a beginning of the lines of all these settings was appended
pub record BeginsSettings (tree : Data) (sweep : Sweep) (width : ℕ) (stretch : Stretch) (old new : Option (List ℕ)) : Type 0 where
  pub made : List (List Made)
  pub are : AreMadeFrom tree sweep width stretch.first stretch.settings made
  pub written : AppendsBeginning old new (stretch_text tree stretch made)

-- ---- how far a setting has come

-- the lines of the setting of this number, behind those of its runs that were made before
abbrev pub setting_course : Sweep → List ℕ → ℕ → List Note → Option (List ℕ) → Course
setting_course sweep key number before start =
    record { key = key; start = start; front = []; from = number * seed_count sweep.seeds + length before; till = number * seed_count sweep.seeds + seed_count sweep.seeds }

-- the lines of the runs of a setting to before the run of this number were appended; no fewer of them are narrow enough with those that were made before
pub record HasGone (tree : Data) (sweep : Sweep) (width : ℕ) (before : List Note) (course : Course) (held : Option (List ℕ)) (kept : SettingRuns) (number : ℕ) : Type 0 where
  pub come : HasCome tree sweep course held (λ notes. AreKept (before ++ notes) kept) number
  pub wide : IsWide width (before ++ map noted come.lines.made)

-- nor are they
pub record GoesOn (tree : Data) (sweep : Sweep) (width : ℕ) (before : List Note) (course : Course) (held : Option (List ℕ)) (kept : SettingRuns) (number : ℕ) : Type 0 where
  pub gone : HasGone tree sweep width before course held kept number
  pub open_yet : is_narrow_of width (before ++ map noted gone.come.lines.made) ≡ false

-- runs of a setting were made up to one with which there are enough, or all to before the run of a number
pub record HasEnded (tree : Data) (sweep : Sweep) (width : ℕ) (before : List Note) (course : Course) (held : Option (List ℕ)) (kept : SettingRuns) (first past : ℕ) : Type 0 where
  pub next : ℕ
  pub more : first < next
  pub high : next ≤ past
  pub gone : HasGone tree sweep width before course held kept next
  pub ends : (is_narrow_of width (before ++ map noted gone.come.lines.made) ≡ true) ⊎ (next ≡ past)

-- a beginning of such lines was appended
pub record BeginsWide (tree : Data) (sweep : Sweep) (width : ℕ) (before : List Note) (course : Course) (held : Option (List ℕ)) : Type 0 where
  pub begun : BeginsLines tree sweep course held
  pub wide : IsWide width (before ++ map noted begun.made)

-- the runs of a setting were made behind those that were made before, their lines were appended, and all are summed up
pub record MakesSetting (tree : Data) (sweep : Sweep) (key : List ℕ) (width number : ℕ) (before : List Note) (old new : Option (List ℕ)) (setting : SettingSummary) : Type 0 where
  pub made : List Made
  pub are : IsMadeBehind tree sweep width number before made
  pub written : Appends old new (flat_map (noted_line (columns_of tree) key) made)
  pub summed : IsSummaryOf setting (before ++ map noted made)

-- they were, whatever their summary
abbrev pub FinishesSetting : Data → Sweep → List ℕ → ℕ → ℕ → List Note → Option (List ℕ) → Option (List ℕ) → Type 0
FinishesSetting tree sweep key width number before old new = (setting : SettingSummary) × MakesSetting tree sweep key width number before old new setting
