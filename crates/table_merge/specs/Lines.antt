-- The lines of a table, where each of them begins, and how they get the checksums of another sweep.
use Rattle.std.specs.Prelude.{◌≡◌, ◌≤◌, ◌<◌, ◌*◌, ◌^◌, ℕ, List, [], ◌∷◌, ◌++◌, All, Option, Some, length, map}
use Rattle.std.specs.List.{AllZip, flat_map}
use Rattle.std.specs.Io.KnownBytes.{Appends}
use Rattle.sweep_plan.specs.Sweep.{seed_count, Sweep}
use Rattle.figures.specs.Notes.{note_text}
use Rattle.line_sums.specs.Sums.{checksum}
use Rattle.sweep.specs.Sums.{AreLinesOf}
use Rattle.sweep.specs.declared.summing.LineKey.{LineKey}
use Rattle.sweep.specs.declared.gathering.Gathering.{Gathering}
use Rattle.table_rows.specs.Lines.{AreLines, HasLine, IsLine, Line, notes_of, shard_line}
use Rattle.shard_merge.specs.Behind.{GathersMore}
use Rattle.table_merge.specs.Seeds.{Ranged}

-- what a line has behind its checksum
abbrev pub behind_sum : Line → List ℕ
behind_sum l = note_text l.note ++ 44 ∷ (l.body ++ 10 ∷ [])

-- the line with its checksum of this key
abbrev pub resummed : List ℕ → Line → Line
resummed key l = record { sum = checksum key (behind_sum l); note = l.note; body = l.body }

-- the text begins with the line
abbrev pub BeginsWithIt : List ℕ → Line → Type 0
BeginsWithIt text l = (left : List ℕ) × (text ≡ shard_line l ++ left)

-- the text is so many lines, each of which is that with which one of these texts begins
pub record AreStarts (text : List ℕ) (count : ℕ) (starts : List (List ℕ)) : Type 0 where
  pub are : AreLines text count
  pub begin : AllZip BeginsWithIt starts are.items

-- and they are the lines of the runs of a sweep with this key
pub record AreGenuine (key : LineKey) (sweep : Sweep) (text : List ℕ) (count : ℕ) (starts : List (List ℕ)) : Type 0 where
  pub read : AreStarts text count starts
  pub placed : AreLinesOf key sweep 0 text count

-- lines with which these texts begin were put with their checksums of this key, and their notes were gathered
pub record PutsLines (key : List ℕ) (starts : List (List ℕ)) (before after : Gathering) (old new : Option (List ℕ)) : Type 0 where
  pub lines : List Line
  pub sound : All IsLine lines
  pub begin : AllZip BeginsWithIt starts lines
  pub written : Appends old new (flat_map shard_line (map (resummed key) lines))
  pub gathered : GathersMore before after (notes_of lines)

-- a table has the lines of so many settings
pub record IsFull (settings : ℕ) (t : Ranged (List ℕ)) : Type 0 where
  pub ordered : t.seeds.first ≤ t.seeds.last
  pub low : t.seeds.last < 2 ^ 63
  pub many : length t.things ≡ settings * seed_count (Some t.seeds)
  pub begin : All HasLine t.things
