-- By what the line of a run is known: its checksum, and that it is written of the run at its place, with metadata that agrees with its figures.
use Rattle.std.specs.Prelude.{◌≡◌, ◌==◌, ◌<◌, ◌^◌, ℕ, List, [], ◌∷◌, ◌++◌, All, Option, Some, None, false}
use Rattle.std.specs.List.{AllZip, flat_map, range_with_len}
use Rattle.std.specs.Option.{ForSome}
use Rattle.toml.specs.Data.{Data}
use Rattle.schema.specs.Values.{number_at}
use Rattle.schema.specs.declared.schema.FormatKey.TheVariants as format
use Rattle.schema.specs.declared.schema.Section.TheVariants as section
use Rattle.sweep_plan.specs.Sweep.{Sweep}
use Rattle.sweep_plan.specs.Values.{value_text}
use Rattle.sweep_plan.specs.declared.choice.Choice.{Choice}
use Rattle.figures.specs.declared.column_set.ColumnSet.{ColumnSet}
use Rattle.figures.specs.Cells.{AgreesWith, cells_in_order}
use Rattle.figures.specs.Lines.{run_line}
use Rattle.figures.specs.Notes.{IsNoteWord, IsSmall, Note, note_cell}
use Rattle.figures.specs.declared.run.RunFigures.{RunFigures}
use Rattle.line_sums.specs.Sums.{IsCut, key_of, summed}
use Rattle.shards.specs.Names.{plan_text}
use Rattle.sweep.specs.Runs.{Planned, IsRunAt}
use Rattle.sweep.specs.Table.{columns_of, texts_of}
use Rattle.sweep.specs.declared.summing.LineKey.{LineKey}

-- what the lines of a sweep of a text with this mark have in common: that, and the words that ask for the sweep
abbrev pub sweep_key : List ℕ → Sweep → List ℕ
sweep_key mark sweep = key_of mark (plan_text sweep)

-- What makes the lines of a table genuine: the key of their checksums, the table's columns, and the seed of the scenario's text, where that is known.
abbrev pub line_key : ColumnSet → Option ℕ → List ℕ → Sweep → LineKey
line_key columns own mark sweep = record { digest = sweep_key mark sweep; columns = columns; own = own }

-- the seed that the text itself gives its runs
abbrev pub text_seed : Data → ℕ
text_seed tree = number_at section.Top format.Seed (Some tree)

-- the same of a sweep of this document, whose seed is known
abbrev pub key_of_text : Data → List ℕ → Sweep → LineKey
key_of_text tree mark sweep = line_key (columns_of tree) (Some (text_seed tree)) mark sweep

-- the seed of a run, where it is known: the one that is asked for, else the text's
abbrev pub known_seed : Option ℕ → Option ℕ → Option ℕ
known_seed (Some asked) own = Some asked
known_seed None own = own

-- the values of a setting as cells, each with a comma behind it
abbrev pub value_cells : List Choice → List ℕ
value_cells chosen = flat_map (λ c. value_text c.value ++ 44 ∷ []) chosen

-- it is what the line of the run of this number has behind this metadata: the values of the run's setting, its seed, and figures that agree with the
-- metadata, each number at most 2^63 - 1
pub record IsBehindMetadata (key : LineKey) (sweep : Sweep) (number : ℕ) (note : Note) (behind : List ℕ) : Type 0 where
  pub planned : Planned
  pub there : IsRunAt sweep number planned
  pub seed : ℕ
  pub seeded : ForSome (known_seed planned.seed key.own) (λ k. seed ≡ k)
  pub run : RunFigures
  pub agrees : AgreesWith note run
  pub small : All (λ f. ForSome f (λ m. m < 2 ^ 63)) (cells_in_order key.columns seed run)
  pub written : behind ≡ run_line key.columns (texts_of planned.setting) seed run

-- it is the line of that run with some metadata, of which each number is at most 2^63 - 1
pub record IsPlaced (key : LineKey) (sweep : Sweep) (number : ℕ) (line : List ℕ) : Type 0 where
  pub note : Note
  pub small : IsSmall note
  pub behind : List ℕ
  pub cells : IsBehindMetadata key sweep number note behind
  pub written : line ≡ note_cell note ++ behind

-- the text is a line, with its line feed
pub record IsFed (line : List ℕ) : Type 0 where
  pub body : List ℕ
  pub one : All (λ byte. (byte == 10) ≡ false) body
  pub fed : line ≡ body ++ 10 ∷ []

-- it is the line of the run of this number of a sweep with this key: its checksum is right, and it is placed there
pub record IsLineOf (key : LineKey) (sweep : Sweep) (number : ℕ) (line : List ℕ) : Type 0 where
  pub fed : IsFed line
  pub rest : List ℕ
  pub sum : line ≡ summed key.digest rest
  pub placed : IsPlaced key sweep number rest

-- the text begins with it, and this is left
pub record BeginsWithLine (key : LineKey) (sweep : Sweep) (number : ℕ) (text left : List ℕ) : Type 0 where
  pub line : List ℕ
  pub is : IsLineOf key sweep number line
  pub written : text ≡ line ++ left

-- whatever is left
abbrev pub HasLineOf : LineKey → Sweep → ℕ → List ℕ → Type 0
HasLineOf key sweep number text = (left : List ℕ) × BeginsWithLine key sweep number text left

-- the text begins with the lines of so many runs, from that of a number on
pub record BeginsWithLines (key : LineKey) (sweep : Sweep) (first : ℕ) (text left : List ℕ) (count : ℕ) : Type 0 where
  pub lines : List (List ℕ)
  pub are : AllZip (IsLineOf key sweep) (range_with_len first count) lines
  pub written : text ≡ flat_map (λ line. line) lines ++ left

-- it is these lines
abbrev pub AreLinesOf : LineKey → Sweep → ℕ → List ℕ → ℕ → Type 0
AreLinesOf key sweep first text count = BeginsWithLines key sweep first text [] count

-- The text begins with a note where a line has its checksum, as the lines of versions before 1.11.0 did, whose notes had no incidents. A checksum of digits
-- alone and a note behind it may be a note with incidents.
pub record IsOlder (text : List ℕ) : Type 0 where
  pub word : List ℕ
  pub behind : List ℕ
  pub cut : IsCut 44 text word behind
  pub note : Note
  pub says : IsNoteWord word note
  pub first : note.incidents ≡ None
