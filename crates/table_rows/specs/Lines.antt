-- The lines of a sweep's table, each with a checksum and a note before it.
use Rattle.std.specs.Prelude.{◌≡◌, ◌==◌, ℕ, List, [], ◌∷◌, ◌++◌, All, map, false}
use Rattle.figures.specs.Notes.{Note, IsSmall, note_text}
use Rattle.table_rows.specs.Items.{BeginsWith, IsAllOf}

-- a line: its checksum, the note before it, and what else it has, without its line feed
pub record Line : Type 0 where
  pub sum : List ℕ
  pub note : Note
  pub body : List ℕ

-- its checksum has no space, it has no line feed, and the figures of its note are small
pub record IsLine (l : Line) : Type 0 where
  pub spaceless : All (λ byte. (byte == 32) ≡ false) l.sum
  pub small : IsSmall l.note
  pub one : All (λ byte. (byte == 10) ≡ false) l.body

-- the line as it stands in a table
abbrev pub shard_line : Line → List ℕ
shard_line l = l.sum ++ 32 ∷ (note_text l.note ++ 44 ∷ (l.body ++ 10 ∷ []))

abbrev pub notes_of : List Line → List Note
notes_of lines = map (λ l. l.note) lines

-- what stands behind the first space of a text, where a line has its checksum
pub record IsBehindSum (text rest : List ℕ) : Type 0 where
  pub sum : List ℕ
  pub spaceless : All (λ byte. (byte == 32) ≡ false) sum
  pub written : text ≡ sum ++ 32 ∷ rest

-- the text begins with a line, whatever is left
abbrev pub HasLine : List ℕ → Type 0
HasLine text = (left : List ℕ) × BeginsWith IsLine shard_line text left

-- it begins with one, this is left, and this holds of its note
pub record ReadsLine (text left : List ℕ) (Gathers : Note → Type 0) : Type 0 where
  pub begins : BeginsWith IsLine shard_line text left
  pub gathered : Gathers begins.one.note

-- the text is so many lines
abbrev pub AreLines : List ℕ → ℕ → Type 0
AreLines text count = IsAllOf IsLine shard_line text count

-- and this holds of their notes
pub record ReadsLines (text : List ℕ) (count : ℕ) (Gathers : List Note → Type 0) : Type 0 where
  pub are : AreLines text count
  pub gathered : Gathers (notes_of are.items)
