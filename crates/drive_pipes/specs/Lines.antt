-- The lines in the bytes that come in.
use Rattle.std.specs.Prelude.{◌≡◌, ◌≢◌, ◌<◌, ◌≤◌, ℕ, List, ◌∷◌, ◌++◌, length, slice_index, ◌+◌, nat_lt, if◌then◌else◌}
use Rattle.drive_pipes.specs.declared.incoming.NextLine.{NextLine}
use Rattle.drive_pipes.specs.declared.incoming.NextLine.TheVariants.{Line, Part, Long}

-- how many bytes a line may have, without its line feed
abbrev pub longest : ℕ
longest = 1048576

-- none of the first bytes is a line feed
abbrev pub HasNoFeed : List ℕ → ℕ → Type 0
HasNoFeed bytes count = (k : ℕ) → k < count → slice_index bytes k ≢ 10

-- What stands first among the bytes, and those behind it. A line is taken; nothing else is.
abbrev pub Takes : List ℕ → List ℕ → NextLine → Type 0
Takes old new (Line line) = (old ≡ line.items ++ 10 ∷ new) × (length line.items ≤ longest) × HasNoFeed line.items (length line.items)
Takes old new Part = (new ≡ old) × (length old ≤ longest) × HasNoFeed old (length old)
Takes old new Long = (new ≡ old) × (longest < length old) × HasNoFeed old (longest + 1)

-- where the bytes begin that aren't taken, and before which of them no line feed stands
pub record IsSearched (from searched : ℕ) (bytes : List ℕ) : Type 0 where
  pub order : from ≤ searched
  pub within : searched ≤ length bytes
  pub none : (k : ℕ) → from ≤ k → k < searched → slice_index bytes k ≢ 10

-- what so many bytes are among which no line feed stands
abbrev pub unended_of : ℕ → NextLine
unended_of count = if nat_lt longest count then Long else Part
