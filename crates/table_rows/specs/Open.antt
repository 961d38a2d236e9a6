-- The lines of a setting that needs more runs than it has lines.
use Rattle.std.specs.Prelude.{◌≡◌, ◌*◌, ◌+◌, ℕ, List, [], ◌∷◌, ◌++◌, All, length}
use Rattle.sweep_plan.specs.Sweep.{Sweep, seed_count}
use Rattle.figures.specs.Notes.{Note}
use Rattle.sweep.specs.Sums.{AreLinesOf}
use Rattle.sweep.specs.declared.summing.LineKey.{LineKey}
use Rattle.sweep_until.specs.Until.{AreTooFew}
use Rattle.table_rows.specs.Items.{BeginsWith}
use Rattle.table_rows.specs.Lines.{Line, IsLine, notes_of, shard_line}
use Rattle.table_rows.specs.Settings.{shard_setting}

-- the line of the run of this number of a sweep with this key: it is genuine at that run's place
pub record IsRowOf (key : LineKey) (sweep : Sweep) (number : ℕ) (l : Line) : Type 0 where
  pub sound : IsLine l
  pub placed : AreLinesOf key sweep number (shard_line l) 1

-- the text begins with it, whatever is left
abbrev pub HasRowOf : LineKey → Sweep → ℕ → List ℕ → Type 0
HasRowOf key sweep number text = (left : List ℕ) × BeginsWith (IsRowOf key sweep number) shard_line text left

-- it does, and its metadata comes behind that of others
pub record ReadsRow (key : LineKey) (sweep : Sweep) (number : ℕ) (text left : List ℕ) (before after : List Note) : Type 0 where
  pub begins : BeginsWith (IsRowOf key sweep number) shard_line text left
  pub added : after ≡ before ++ begins.one.note ∷ []

-- The lines of the first runs of the setting of this number, which are too few: each is genuine at its place.
pub record IsOpenSetting (key : LineKey) (sweep : Sweep) (width number : ℕ) (lines : List Line) : Type 0 where
  pub sound : All IsLine lines
  pub placed : AreLinesOf key sweep (number * seed_count sweep.seeds) (shard_setting lines) (length lines)
  pub few : AreTooFew width (seed_count sweep.seeds) (notes_of lines)

-- the text begins with them, this is their metadata, and what is left doesn't begin with the line of the next run
pub record BeginsWithOpen (key : LineKey) (sweep : Sweep) (width number : ℕ) (text left : List ℕ) (before : List Note) : Type 0 where
  pub lines : List Line
  pub are : IsOpenSetting key sweep width number lines
  pub noted : notes_of lines ≡ before
  pub written : text ≡ shard_setting lines ++ left
  pub no_more : ¬ (HasRowOf key sweep (number * seed_count sweep.seeds + length before) left)
